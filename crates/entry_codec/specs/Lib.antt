pub mod Body
pub mod Within
pub mod Reading
pub mod Places
pub mod Examples
