pub mod Map
pub mod Rest
