pub mod Words
pub mod Durations
pub mod Environments
pub mod Abouts
pub mod Slots
