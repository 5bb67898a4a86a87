pub mod Living
pub mod Turning
pub mod Ending
pub mod Cutting
pub mod Starting
pub mod Staying
