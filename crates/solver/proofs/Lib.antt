pub mod Broken
pub mod Checked
pub mod Counters
pub mod Faulty
pub mod Impossible
pub mod RunEnds
pub mod SameRuns
