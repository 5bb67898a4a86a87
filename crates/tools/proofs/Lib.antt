mod Bodies
mod EmptySlots
mod Outputs
