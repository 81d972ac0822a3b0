pub mod Joining
pub mod Unfolding
pub mod Cutting
