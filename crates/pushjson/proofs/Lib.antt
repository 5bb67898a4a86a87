pub mod Deciding
pub mod Existence
pub mod Beginnings
pub mod Trees
