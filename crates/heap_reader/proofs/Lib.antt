mod TokenPlaces
pub mod NoFlaw
pub mod Fitting
pub mod WithinSpans
pub mod SpanLaws
pub mod Readings
pub mod Wider
mod Indexes
pub mod Loops
pub mod Members
pub mod FirstPlaces
pub mod FlawFronts
pub mod FrontSpans
pub mod DefinitionMembers
pub mod DefinitionFitting
pub mod DefinitionSpanLaws
pub mod DefinitionWithinSpans
pub mod TreesAgain
pub mod ValuesAgain
pub mod DefinitionFlaws
pub mod DefinitionFrontSpans
pub mod Programs
pub mod LineWithinSpans
pub mod LineSpanLaws
pub mod LineWider
pub mod EndLoops
pub mod EndWithinSpans
pub mod EndSpanLaws
pub mod EndWider
pub mod EndFronts
pub mod HeapTerms
pub mod EndFitting
pub mod EndsAgain
pub mod NumberedEnds
mod Stable
mod DefinitionLaw
mod Parts
