pub mod Members
pub mod Going
pub mod Trying
pub mod Visiting
pub mod Depth
pub mod Deepening
pub mod Firsts
pub mod Induction
pub mod Offered
pub mod Grown
pub mod Leaves
pub mod Waiting
pub mod Stack
pub mod TakenBack
pub mod Rows
pub mod Graphs
pub mod TableauSteps
pub mod TableauOffered
pub mod Few
pub mod Joined
pub mod Made
pub mod TableauFound
pub mod Replays
mod Fares
pub mod Steps
pub mod Nexts
mod Taking
mod Returning
pub mod Leaving
pub mod Answers
pub mod Fairness
pub mod LogicMade
pub mod LogicRows
pub mod Right
pub mod Graph
pub mod LogicFound
pub mod LogicSteps
pub mod ByTarget
mod Searched
