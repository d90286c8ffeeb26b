pub mod Equations
pub mod Collecting
pub mod ReadingSystems
