pub mod Spelling
pub mod Workers
pub mod Clients
pub mod Parts
pub mod Proofs
pub mod Rules
