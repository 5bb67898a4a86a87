pub mod Bindings
pub mod Queues
pub mod Lying
pub mod Asides
