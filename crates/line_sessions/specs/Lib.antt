pub mod Lines
pub mod Proofs
pub mod Told
pub mod Ends
pub mod Streams
pub mod Serving
