pub mod Filling
pub mod BindingKept
