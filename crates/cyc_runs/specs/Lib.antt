pub mod Names
pub mod Texts
pub mod Endings
pub mod Faults
pub mod Runs
pub mod Pieces
pub mod Exits
