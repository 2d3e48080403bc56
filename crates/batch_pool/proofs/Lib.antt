pub mod Ends
pub mod Totals
pub mod Moves
pub mod Steps
pub mod Counts
pub mod Matched
pub mod Once
