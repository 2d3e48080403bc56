pub mod Listed
pub mod Closing
pub mod Asked
pub mod Alike
pub mod Following
pub mod Inside
pub mod Spots
