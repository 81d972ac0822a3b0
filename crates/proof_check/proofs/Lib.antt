pub mod Readable
pub mod Checked
pub mod KeptFacts
pub mod OneAnswer
mod WiderRules
pub mod Upgraded
