pub mod Members
pub mod HeapTerms
pub mod Instances
pub mod EntailmentLines
pub mod Folding
pub mod RulesWithin
pub mod LinksWithin
pub mod RulesGo
pub mod LinksFit
pub mod Fair
pub mod Within
pub mod FileFound
mod Closing
mod Proofs
