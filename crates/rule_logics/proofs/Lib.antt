pub mod Loops
pub mod Suits
pub mod Answered
pub mod Succeeding
