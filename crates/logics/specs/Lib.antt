pub mod Logics
pub mod Answers
pub mod Faults
pub mod Graphs
pub mod Laws
pub mod Verdicts
pub mod Tests
