pub mod Canon
pub mod Values
