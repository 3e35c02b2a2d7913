pub mod Linked
pub mod Oldest
