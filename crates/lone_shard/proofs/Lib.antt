pub mod Rounds
pub mod Books
pub mod Passes
