pub mod Batches
pub mod Gaining
pub mod Lines
pub mod Ordering
pub mod ServedPasses
pub mod Telling
