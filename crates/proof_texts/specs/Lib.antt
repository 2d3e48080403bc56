pub mod Texts
pub mod Told
pub mod Read
pub mod Forms
pub mod Lines
pub mod Prints
pub use Rattle.client_lines.specs as lines
