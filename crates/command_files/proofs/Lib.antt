pub mod Kept
pub mod Saying
pub mod Refused
