pub mod Histories
pub mod Printed
pub mod Told
pub mod CapacityRefused
pub mod Listed
pub mod Granted
pub mod StairsRefused
