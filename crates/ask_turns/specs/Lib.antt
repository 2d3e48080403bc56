pub mod CertificateLaws
pub mod Certified
pub mod Finds
pub mod Laws
pub mod Searched
pub mod Sharing
pub mod Shown
pub mod Tries
pub mod Clients
pub mod Told
pub mod Turns
pub use Rattle.path_commit.specs.journal as journal
pub use Rattle.path_commit.specs.history as history
pub use Rattle.path_labels.specs as labels
pub use Rattle.path_labels.specs.tails as tails
