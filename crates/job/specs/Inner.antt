pub mod Formed
pub mod Bringing
pub mod Turns
