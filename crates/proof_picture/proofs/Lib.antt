pub mod Alone
pub mod Counts
mod StepLoops
mod Turns
mod Marking
mod Keeping
mod Statements
