pub mod Events
pub mod Worlds
pub mod Parties
pub mod Sound
pub mod Pairs
pub mod Runs
pub mod Inside
