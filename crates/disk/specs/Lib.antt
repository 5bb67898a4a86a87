pub mod Sight
pub mod Moments
pub mod State
pub mod Laws
pub mod Calls
pub mod CallRecord
pub mod FileDisk
