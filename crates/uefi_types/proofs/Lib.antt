pub mod Endian
pub mod Tested
