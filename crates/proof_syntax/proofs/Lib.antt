pub mod GrammarLaws
pub mod GrammarEnds
pub mod ReasonParts
pub mod SeenTrees
pub mod NodeFronts
pub mod FrontFits
mod WritingReasonParts
mod WrittenFiles
pub mod StatementStatements
pub mod Listed
pub mod LeftLaws
pub mod StatementFronts
