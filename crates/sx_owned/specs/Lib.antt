pub mod Owned
pub mod Runs
pub mod Spans
