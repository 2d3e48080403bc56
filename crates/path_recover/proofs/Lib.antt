pub mod Reopened
pub mod Copies
pub mod Walked
pub mod Renewed
pub mod Unrefused
pub mod Once
pub mod Pieces
pub mod Seen
pub use Rattle.grant_log.proofs as history_lemmas
