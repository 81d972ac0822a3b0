pub mod Faults
pub mod Lines
pub mod States
pub mod Steps
pub mod Effects
pub mod Endings
