pub mod Ranges
pub mod RangedGrounding
pub mod Derivations
pub mod Picks
pub mod Runs
pub mod Growing
pub mod Refuting
pub mod Moves
