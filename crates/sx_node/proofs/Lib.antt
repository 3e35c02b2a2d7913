pub mod Walks
pub mod ClaimLemmas
pub mod TargetLemmas
