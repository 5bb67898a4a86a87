pub mod Rounds
pub mod Passes
