pub mod Batches
pub mod Sockets
pub mod Talks
