pub mod Lines
pub mod Limits
pub mod Answers
pub mod Graphs
pub mod SeparationLogic
pub mod LogicLaws
pub mod Instance
pub mod ProgramLinks
