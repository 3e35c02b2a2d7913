pub mod Kinds
pub mod Local
pub mod Fields
pub mod Reading
pub mod Cells
