pub mod Images
pub mod Beginnings
pub mod GateDisk
pub mod FaultPlan
pub mod Memory
pub mod MemDisk
