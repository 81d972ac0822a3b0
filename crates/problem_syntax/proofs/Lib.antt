pub mod ProblemLaws
pub mod ProblemEnds
pub mod Firsts
mod Inserting
mod Numbered
