pub mod Told
pub mod WaysToEnd
pub mod Fed
