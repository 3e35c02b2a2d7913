mod Listings
pub mod Logs
mod Maximals
pub mod Records
mod Streaks
mod Walks
