pub mod Fields
pub mod Words
pub mod Texts
pub mod Tokens
pub mod Kept
