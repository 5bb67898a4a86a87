pub mod Maps
pub mod Splits
pub mod Stages
