pub mod Adding
pub mod Gaps
pub mod Holding
pub mod RunLemmas
pub mod Tables
