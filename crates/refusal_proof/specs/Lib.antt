pub mod Proofs
pub mod Inside
pub use Rattle.stair_pieces.specs as pieces
pub use Rattle.tail_states.specs as tails
