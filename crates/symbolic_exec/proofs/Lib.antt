mod FirstCell
mod Limits
mod FreshNumbers
pub mod ProgramLines
