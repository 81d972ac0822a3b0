pub mod OneWay
pub mod Universal
pub mod Firsts
pub mod Exact
mod NameTests
mod Counts
pub mod Fitting
mod WithinSpans
mod SpanLaws
pub mod Readings
pub mod Keeping
pub mod HeapsWithin
mod LinesWithin
mod OwnNames
pub mod Within
mod FromWithin
pub mod Lists
pub mod Names
pub mod FileTerms
pub mod Heaps
pub mod Judgements
pub mod Reasons
pub mod NodesFit
pub mod NodesFlawless
pub mod ProgramLines
pub mod ProgramEnds
pub mod DefinitionTrees
pub mod FileTrees
pub mod Raised
