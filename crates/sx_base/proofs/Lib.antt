pub mod HeldPages
pub mod Places
pub mod Ranges
pub mod SheetViews
