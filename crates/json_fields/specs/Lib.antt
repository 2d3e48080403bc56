pub mod Escapes
pub mod Reading
pub mod Texts
pub mod Places
pub mod Spots
pub mod Numbers
pub mod NameReading
pub mod Spellings
