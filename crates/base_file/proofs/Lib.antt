pub mod Lists
pub mod Pairs
pub mod Joining
pub mod Firsts
pub mod Found
pub mod Moved
pub mod Facts
