pub mod Checks
pub mod Doubts
pub mod Files
pub mod Works
pub mod Runs
pub mod Replays
pub mod Counts
