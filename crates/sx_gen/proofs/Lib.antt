pub mod Drawing
pub mod Lists
pub mod Lengths
pub mod Sizes
pub mod Summing
