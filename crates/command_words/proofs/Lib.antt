pub mod Agreeing
pub mod Carrying
pub mod Commands
pub mod Errors
pub mod Repeated
