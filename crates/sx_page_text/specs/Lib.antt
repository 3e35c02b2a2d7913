pub mod NodeText
pub mod Page
pub mod Places
pub mod Rest
