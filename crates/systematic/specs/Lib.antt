pub mod Places
pub mod InformationSets
pub mod Staircases
pub mod EncodedAt
pub mod Inner
