pub mod Carrying
pub mod Utf8Cuts
pub mod Extending
pub mod TakingLaws
pub mod SpanLaws
pub mod Fed
pub mod ShortTokens
mod FirstBytes
pub mod FrontLaws
pub mod ValidLaws
pub mod RunLaws
pub mod Takes
pub mod TakingBytes
