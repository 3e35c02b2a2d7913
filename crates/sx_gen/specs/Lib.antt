pub mod Draws
pub mod Pages
pub mod Log
pub mod Made
