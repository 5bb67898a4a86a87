pub mod Moving
pub mod Ordered
pub mod Trying
