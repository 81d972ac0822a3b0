pub mod Counting
pub mod Placed
pub mod Starts
pub mod Steps
pub mod AtomLists
pub mod TakenOut
pub mod Satisfied
pub mod Tabled
pub mod Taken
pub mod Joins
pub mod Reached
pub mod LargeAtoms
mod Staged
mod Advanced
mod Turned
