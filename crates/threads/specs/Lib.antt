pub mod Reads
pub mod Windows
