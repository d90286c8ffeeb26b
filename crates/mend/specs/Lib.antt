pub mod Mended
pub mod Inner
