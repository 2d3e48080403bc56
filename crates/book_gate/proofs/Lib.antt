pub mod Lists
pub mod Turns
pub mod Keeps
pub mod Merging
