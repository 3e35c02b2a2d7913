pub mod Marks
pub mod Lengths
pub mod Rows
pub mod Given
