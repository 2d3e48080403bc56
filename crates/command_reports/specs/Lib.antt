pub mod Refusals
pub mod Reports
pub mod Works
pub mod Numbers
pub mod Scenes
pub mod Reading
pub mod Writing
pub mod Disks
