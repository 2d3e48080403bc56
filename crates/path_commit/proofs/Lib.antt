pub mod Standing
pub mod Joining
pub mod Growing
pub use Rattle.grant_log.proofs as history_lemmas
