pub mod Ranges
pub mod Lanes
pub mod Polynomials
pub mod Linear
pub mod Rows
pub mod Interpolation
pub mod RootInterpolation
pub mod Indicators
