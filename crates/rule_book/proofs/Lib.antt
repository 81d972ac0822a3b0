pub mod WholeTable
mod PremiseLines
pub mod Heaps
pub mod Gives
pub mod Judgements
pub mod Within
pub mod ReasonPremises
pub mod Few
pub mod Shorts
mod SmallEntries
pub mod FewPremises
mod ExampleFaults
mod ExampleFiles
