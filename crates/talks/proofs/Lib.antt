pub mod Pairs
pub mod Talking
