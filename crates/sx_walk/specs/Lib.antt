pub mod Walks
pub mod Turning
pub mod Renewing
pub mod Missing
pub mod Renumbering
pub mod Keeping
pub mod Steady
pub mod Stepping
