pub mod Grades
pub mod Gradings
pub mod Held
pub mod Journals
pub mod Readings
pub mod Samples
pub mod Walked
pub mod Walks
