pub mod Places
pub mod Pieces
pub mod Joining
pub mod Fitting
pub mod Moves
pub mod Steps
pub mod Claiming
pub mod Alike
