pub mod Drill
pub mod Rest
