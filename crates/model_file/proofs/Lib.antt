pub mod Parts
mod Taken
mod SpanLaws
mod WithinSpans
pub mod SortedCells
mod EntryCells
mod Moved
mod ModelsAgain
pub mod Readings
pub mod ModelLaws
pub mod ModelEnds
mod ModelWriting
