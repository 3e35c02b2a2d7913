pub mod Checksum
pub mod Frames
pub mod State
pub mod Wal
pub mod Walk
