pub mod LineParts
pub mod SessionSteps
