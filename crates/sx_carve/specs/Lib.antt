pub mod Candidates
pub mod Choice
pub mod Evidence
pub mod Scan
