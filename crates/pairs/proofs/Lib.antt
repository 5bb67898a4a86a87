pub mod Order
pub mod Metas
