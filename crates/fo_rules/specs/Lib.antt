pub mod Putting
pub mod Capping
pub mod Making
pub mod Answers
