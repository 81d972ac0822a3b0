pub mod NoteLaws
pub mod SameWords
pub mod PassedOver
pub mod ScriptLaws
pub mod Wrote
pub mod Exact
pub mod Told
pub mod Said
pub mod FrameLaws
mod FramePrefixes
