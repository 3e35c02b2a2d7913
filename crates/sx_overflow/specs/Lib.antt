pub mod Chains
pub mod Payloads
pub mod Sound
pub mod Whole
