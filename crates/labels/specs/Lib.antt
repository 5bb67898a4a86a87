pub mod Canonical
pub mod Faults
pub mod Keys
pub mod Shards
pub mod Tenants
