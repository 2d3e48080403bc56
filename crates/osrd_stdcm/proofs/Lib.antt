pub mod Files
pub mod Calls
pub mod Fitting
pub mod Ready
pub mod Carries
pub mod Sessions
pub mod Unhindered
