pub mod Timeline
pub mod Rest
