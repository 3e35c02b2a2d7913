pub mod Joining
pub mod Matching
pub mod PageSizeLemmas
pub mod Spelling
pub mod VarintLemmas
pub mod VarintLengths
