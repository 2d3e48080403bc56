pub mod Kinds
pub mod Steps
pub mod Files
pub mod Outs
pub mod Timetables
pub use Rattle.base_file.specs as base
pub use Rattle.train_file.specs as train
