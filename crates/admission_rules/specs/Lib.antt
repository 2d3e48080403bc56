pub mod Senses
pub mod Tallies
pub mod Clients
pub mod Ruled
pub mod Told
pub mod Wishes
pub mod Names
