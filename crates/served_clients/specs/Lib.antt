pub mod Talks
pub mod ClientRuns
pub mod Seats
pub mod Gates
pub mod Joins
pub mod Tellings
pub mod StreamClients
pub mod Lending
pub mod Refusing
pub mod Ends
pub mod Rules
pub mod Files
pub mod ServedJournals
pub mod Rounds
pub mod RunGhosts
pub mod GivenNames
pub use Rattle.admission_rules.specs as admission
pub use Rattle.line_answers.specs.turns as turns
pub use Rattle.line_answers.specs.gate as gate
pub use Rattle.client_lines.specs as lines
pub use Rattle.line_answers.specs.history as history
pub use Rattle.line_answers.specs as answers
pub use Rattle.line_sessions.specs as sessions
pub use Rattle.line_answers.specs.book as book
