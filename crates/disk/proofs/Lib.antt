pub mod Ranges
pub mod Acts
pub mod Crash
pub mod FileLemmas
