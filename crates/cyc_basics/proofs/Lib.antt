pub mod Bits
pub mod Options
pub mod Parts
pub mod Places
pub mod Tests
pub mod Members
pub mod PositionLists
