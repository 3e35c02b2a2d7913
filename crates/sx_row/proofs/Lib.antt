pub mod Trails
pub mod HeldNumbers
pub mod Whole
pub mod Joined
