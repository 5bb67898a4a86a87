pub mod Digits
pub mod Failures
pub mod Messages
pub mod Names
mod Parts
pub mod Saying
pub mod Streams
pub mod Values
pub mod Unique
