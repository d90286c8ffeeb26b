pub mod PointSums
pub mod StagedSums
