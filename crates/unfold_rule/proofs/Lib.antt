pub mod JoinedNumbers
pub mod UnfoldLimits
pub mod RightLimits
pub mod CutLimits
