pub mod Buffered
pub mod Unread
