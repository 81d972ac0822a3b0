pub mod Answers
pub mod ModelAnswers
pub mod DisproveAnswers
pub mod Names
pub mod FirstOrderAnswers
pub mod Searches
