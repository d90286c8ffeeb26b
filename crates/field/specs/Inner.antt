pub mod Halves
pub mod FourBits
