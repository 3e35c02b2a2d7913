pub mod Floats
pub mod Joined
