mod LinkLoops
mod DisjunctLoops
pub mod Selecting
mod AlikeShapes
mod Possible
mod Cuts
mod Openings
mod ProspectLoops
mod Complete
pub mod Forced
