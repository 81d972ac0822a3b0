pub mod Notes
pub mod Lines
pub mod Words
pub mod Inputs
pub mod Frames
pub mod Answers
pub mod Possibilities
pub mod Written
