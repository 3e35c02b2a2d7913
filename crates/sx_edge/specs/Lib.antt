pub mod Store
pub mod Sink
pub mod Loads
pub mod Tray
pub mod Trips
pub mod Shelf
pub mod Adapters
