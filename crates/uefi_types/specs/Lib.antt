pub mod Aligned
pub mod LittleEndian
pub mod Modes
pub mod Refusal
pub mod Units
