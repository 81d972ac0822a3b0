pub mod Expressions
pub mod Language
pub mod Inclusions
pub mod Stages
pub mod Derivatives
pub mod Laws
pub mod Grammar
pub mod Tasks
