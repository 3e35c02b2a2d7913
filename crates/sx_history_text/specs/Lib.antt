pub mod Histories
pub mod Rest
pub mod Moments
pub mod Trees
pub mod Tracked
pub mod Schemas
