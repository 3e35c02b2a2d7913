pub mod Growth
pub mod Owning
pub mod Told
pub mod Moments
pub mod Passing
pub mod Behind
