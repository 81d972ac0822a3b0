pub mod Refusals
pub mod Begins
pub mod Asking
