pub mod Lists
pub mod Turns
pub mod KeptMembers
pub mod KeptValues
