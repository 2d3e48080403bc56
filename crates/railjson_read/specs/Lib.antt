pub mod Files
pub mod Landmarks
pub mod Objects
pub mod Signals
pub mod Routes
pub mod Points
pub mod Speeds
