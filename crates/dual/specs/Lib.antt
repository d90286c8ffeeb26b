pub mod Partner
pub mod Orthogonal
pub mod Checked
pub mod Inner
