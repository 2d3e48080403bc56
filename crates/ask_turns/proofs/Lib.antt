pub mod Alike
pub mod CertificatePlaces
pub mod Passing
pub mod Copies
pub mod Judged
pub mod Rounds
pub mod Searching
pub mod Short
pub mod Showing
pub mod Ended
pub mod Guided
pub mod Handed
pub mod Kept
pub mod Known
pub mod Opened
pub mod Taken
pub mod Turned
pub use Rattle.path_commit.proofs.history_lemmas as history_lemmas
