pub mod Counts
pub mod Shares
pub mod Told
pub mod Rows
pub mod Owned
pub mod Histories
pub mod Proved
pub mod Settles
pub mod Replies
pub mod Joins
pub mod Whole
pub mod Done
pub mod StreamLists
pub mod StreamRounds
pub mod StreamLoans
pub mod Uses
pub mod StreamStops
pub mod ReportStatuses
pub mod Names
pub mod Remains
pub mod JournalRounds
pub mod Halts
pub mod JournalStatuses
pub use Rattle.client_lines.proofs as lines_lemmas
pub use Rattle.line_sessions.proofs as sessions_lemmas
