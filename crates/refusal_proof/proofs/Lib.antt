pub mod Clashing
pub mod Numbering
pub mod Staying
pub mod Moving
pub mod Rounds
