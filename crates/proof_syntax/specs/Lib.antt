pub mod ReasonWords
pub mod Trees
pub mod Grammar
pub mod Keeping
pub mod ReasonParts
pub mod Left
pub mod StatementTrees
