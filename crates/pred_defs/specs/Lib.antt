pub mod Book
pub mod Faults
pub mod Bodies
