pub mod Chains
pub mod Completion
pub mod Marks
pub mod Unused
