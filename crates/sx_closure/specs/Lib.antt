pub mod Graph
pub mod Chains
pub mod Tallying
pub mod Laws
