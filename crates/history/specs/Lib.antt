pub mod Types
pub mod Shards
pub mod Histories
pub mod Rule
pub mod Plays
pub mod Handles
