pub mod Images
pub mod Places
pub mod Read
pub mod Search
