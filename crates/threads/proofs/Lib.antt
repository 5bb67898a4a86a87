mod Reading
mod Sent
mod Windows
