pub mod History
pub mod Given
pub mod Leaves
pub mod Closed
pub mod Marks
pub mod Reading
pub mod Standing
pub mod Schemas
