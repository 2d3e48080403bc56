pub mod Books
pub mod Passes
