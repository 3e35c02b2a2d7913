pub mod Words
pub mod Roots
pub mod Tables
pub mod Gathered
