pub mod Sought
pub mod Calls
pub mod Many
pub mod Quiet
pub mod Rooms
pub mod Rows
pub mod Timetabled
pub mod Told
pub mod Behind
pub mod Denied
pub mod Proved
pub mod Granting
pub use Rattle.book_gate.proofs as gate_lemmas
pub mod Taken
