pub mod OneSearch
pub mod OneAnswer
pub mod Told
pub mod Exact
pub mod Upgraded
pub mod RingFiles
