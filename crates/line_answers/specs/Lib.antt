pub mod Answers
pub mod Points
pub mod Calls
pub mod Rules
pub mod Callers
pub mod Tells
pub mod Asked
pub mod Proved
pub mod Granting
pub use Rattle.ask_turns.specs as turns
pub use Rattle.book_gate.specs as gate
pub use Rattle.ask_turns.specs.history as history
pub use Rattle.path_commit.specs as book
pub use Rattle.ask_turns.specs.tails as tails
