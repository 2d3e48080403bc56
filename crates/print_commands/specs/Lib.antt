pub mod Journals
pub mod Steps
pub mod Capacities
pub mod Works
pub mod Tables
