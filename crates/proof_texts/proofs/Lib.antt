pub mod Visible
pub mod Cutting
pub mod Words
pub mod Spelled
pub mod FirstLines
pub mod MemberLines
pub mod Beginnings
pub mod Telling
pub mod Looping
pub mod Printing
pub use Rattle.client_lines.proofs as lines_lemmas
