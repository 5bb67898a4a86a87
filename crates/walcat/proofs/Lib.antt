mod Placed
mod Slots
