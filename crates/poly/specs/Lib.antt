pub mod Lists
pub mod Ascending
pub mod Messages
pub mod Sets
pub mod Inner
