pub mod Visits
pub mod Whole
pub mod ServedOnce
