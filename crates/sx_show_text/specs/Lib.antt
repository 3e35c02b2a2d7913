pub mod Columns
pub mod Given
pub mod Items
pub mod Show
pub mod Rest
