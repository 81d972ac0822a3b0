pub mod Maps
pub mod Gaps
pub mod Faultless
pub mod Moves
pub mod Ends
