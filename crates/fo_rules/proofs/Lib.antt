pub mod Ends
pub mod Bounding
pub mod Replacings
pub mod Measuring
pub mod CaseMaking
pub mod LinkMaking
