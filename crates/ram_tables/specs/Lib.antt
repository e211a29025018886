pub mod Tables
pub mod Meaning
pub mod Lookups
pub mod Moves
