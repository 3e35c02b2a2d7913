pub mod Counting
pub mod Loops
pub mod Steps
pub mod Walking
pub mod Ways
