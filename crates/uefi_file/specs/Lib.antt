pub mod Handles
pub mod Reads
pub mod Infos
pub mod Boxes
