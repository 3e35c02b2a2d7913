pub mod Explain
pub mod Rest
