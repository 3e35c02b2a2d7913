pub mod Entries
pub mod GivenEntries
pub mod Given
