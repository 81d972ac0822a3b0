pub mod Answers
pub mod Rings
