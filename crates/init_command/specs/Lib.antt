pub mod Works
pub mod Begins
pub mod Moves
