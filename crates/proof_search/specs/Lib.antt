pub mod Calculus
pub mod Problems
pub mod Faultless
pub mod Found
pub mod Outcomes
pub mod Moves
