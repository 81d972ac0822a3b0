pub mod Fitting
pub mod SpanLaws
pub mod ReadableNodes
pub mod WithinSpans
pub mod LinesAgain
mod TreesAgain
pub mod Readings
pub mod FewAtoms
pub mod NodeFlaws
pub mod FrontSpans
pub mod Universal
mod TextFronts
mod ValuesAgain
pub mod TextReadings
mod Wider
