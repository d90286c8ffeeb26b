pub mod TermWords
pub mod Completing
