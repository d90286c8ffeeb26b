pub mod Locating
pub mod Products
pub mod Candidates
