pub mod Chars
pub mod Escapes
pub mod Existence
pub mod Lawful
pub mod Parts
pub mod Reading
pub mod Sets
pub mod Unique
