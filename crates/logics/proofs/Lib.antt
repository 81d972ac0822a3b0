pub mod RightNodes
pub mod RightGraphs
pub mod PremiseLoops
pub mod Checks
