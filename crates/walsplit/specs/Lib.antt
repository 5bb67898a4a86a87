pub mod Words
pub mod Announced
pub mod Endings
