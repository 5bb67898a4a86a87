pub mod WrittenAnew
