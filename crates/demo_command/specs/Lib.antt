pub mod Railways
pub mod Lines
pub mod Sessions
pub mod Counts
pub mod Works
