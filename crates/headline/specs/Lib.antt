pub mod Types
pub mod Threads
pub mod Headline
pub mod Turns
pub mod Lives
pub mod Chains
pub mod Events
