pub mod Bodies
pub mod Parts
pub mod Queries
pub mod Reads
pub mod Shape
pub mod Times
