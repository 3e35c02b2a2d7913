pub mod Entries
pub mod Grading
pub mod Header
pub mod Journal
pub mod Segments
