pub mod Numbers
pub mod Growth
pub mod Atoms
pub mod CaseStates
pub mod Joins
pub mod Stages
pub mod Turns
