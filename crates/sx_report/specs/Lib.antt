pub mod Facts
pub mod Report
pub mod Rest
