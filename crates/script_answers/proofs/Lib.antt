pub mod Begun
pub mod Asking
