pub mod Stairs
pub mod Networks
pub mod Words
