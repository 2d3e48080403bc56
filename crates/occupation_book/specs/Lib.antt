pub mod Zones
pub mod Columns
pub mod Held
