pub mod ChecksumLemmas
pub mod FrameLemmas
pub mod Ranges
pub mod LogLemmas
pub mod RunLemmas
pub mod WalkLemmas
