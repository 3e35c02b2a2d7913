pub mod Summing
pub mod Rising
pub mod Showing
