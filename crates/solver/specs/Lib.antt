pub mod Runs
pub mod Solutions
