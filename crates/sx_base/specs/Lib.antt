pub mod Bytes
pub mod Causes
pub mod Files
pub mod Held
pub mod Labels
pub mod Maps
pub mod Places
pub mod Sheets
