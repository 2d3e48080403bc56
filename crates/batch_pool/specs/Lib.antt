pub mod Batches
pub mod Hands
pub mod Shifts
pub mod Rooms
