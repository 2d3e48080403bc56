pub mod Ledgers
pub mod Clashes
pub mod Answers
pub mod Footings
pub mod Runs
pub mod Inside
pub use Rattle.grant_journal.specs as journal
pub use Rattle.grant_log.specs as history
pub use Rattle.occupation_book.specs as claims
