pub mod Generations
pub mod Rest
