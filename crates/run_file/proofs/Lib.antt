pub mod RunLaws
pub mod RunEnds
mod RunWriting
mod SeenItems
mod SpanLaws
mod WithinSpans
mod Parts
mod Taken
mod EntryCells
mod RunsAgain
mod Defined
pub mod Readings
mod Fields
mod RunTrees
