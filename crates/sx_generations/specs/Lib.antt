pub mod Confirmed
pub mod Listing
pub mod Neighbours
pub mod Older
