pub mod Newest
pub mod Heads
pub mod Links
