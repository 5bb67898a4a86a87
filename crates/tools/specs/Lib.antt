pub mod EmptySlots
pub mod Endings
