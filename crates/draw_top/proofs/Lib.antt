mod Offsets
pub mod ReadingBack
mod Loops
mod Told
