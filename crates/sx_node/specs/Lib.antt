pub mod Nodes
pub mod Freeblocks
pub mod Claims
pub mod Fixed
pub mod Targets
