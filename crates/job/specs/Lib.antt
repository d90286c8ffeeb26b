pub mod Symbols
pub mod Task
pub mod Opened
pub mod Replies
pub mod Carried
pub mod Claim
pub mod Sound
pub mod Inner
