pub mod Listed
pub mod MomentLines
pub mod Counting
