pub mod Things
pub mod Files
pub mod Journals
pub mod Lists
pub mod Lying
pub mod Made
pub mod Imaged
pub mod Ordered
