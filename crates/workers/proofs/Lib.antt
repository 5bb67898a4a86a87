pub mod Joining
pub mod Lists
