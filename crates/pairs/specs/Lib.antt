pub mod Labels
pub mod Names
pub mod Metas
