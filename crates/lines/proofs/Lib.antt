pub mod Texts
pub mod Decimals
pub mod Chunks
pub mod Lines
pub mod Pages
pub mod LastLines
