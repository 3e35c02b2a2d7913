pub mod Carve
pub mod Rest
pub mod Spilled
pub mod SpilledRest
