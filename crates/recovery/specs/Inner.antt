pub mod Indicators
pub mod Gaps
