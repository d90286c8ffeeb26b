pub mod Passing
pub mod Points
pub mod Series
pub mod PointTable
pub mod Inner
