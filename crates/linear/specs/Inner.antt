pub mod Systems
pub mod Combinations
pub mod Eliminating
