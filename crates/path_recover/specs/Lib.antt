pub mod Opening
pub mod Crashes
pub mod Texts
pub mod Files
pub mod Pieces
pub mod Served
pub mod Failing
pub mod Moving
pub mod Beginning
pub mod Starts
pub mod Walks
pub use Rattle.entry_codec.specs as spelling
pub use Rattle.grant_journal.specs as journal
pub use Rattle.grant_log.specs as history
pub use Rattle.occupation_book.specs as claims
