pub mod Claims
pub mod Links
pub mod Runs
