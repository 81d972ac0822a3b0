pub mod Tokens
pub mod StepLaws
pub mod After
pub mod Beginning
pub mod Fresh
pub mod PieceLaws
pub mod Sizes
mod SameBegun
mod NodeLaws
mod RunLaws
mod KeptParts
mod LexEnds
mod HeldLaws
mod EndLaws
mod LastLaws
mod StatementLaws
mod EndFits
mod FrontLaws
mod BeginLaws
