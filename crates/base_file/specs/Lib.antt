pub mod Base
pub mod Claims
pub mod Fields
pub mod Laws
pub mod Overlaps
pub mod Sound
pub mod Texts
