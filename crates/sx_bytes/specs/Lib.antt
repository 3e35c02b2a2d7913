pub mod Decoding
pub mod PageSize
pub mod Varints
