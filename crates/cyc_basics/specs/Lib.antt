pub mod Words
pub mod Bits
pub mod Sets
pub mod Limits
