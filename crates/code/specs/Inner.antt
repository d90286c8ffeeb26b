pub mod Grid
pub mod Encodable
pub mod Rows
pub mod Recovering
pub mod Readable
pub mod Highest
pub mod Moving
