pub mod ColumnLists
pub mod Checking
pub mod Answering
pub mod Widenings
pub mod Facts
pub mod FullList
pub mod ColumnValues
