pub mod AllPlaces
pub mod Answers
pub mod ChartCourses
pub mod Courses
pub mod Guides
pub mod Joining
pub mod KeptNears
pub mod Plans
pub mod Searched
pub mod TrainCharts
pub use Rattle.running_time.specs as running
pub use Rattle.stair_pieces.specs as pieces
pub use Rattle.tail_states.specs as tails
