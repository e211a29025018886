pub mod Standing
pub mod Meaning
pub mod Telling
pub mod Moves
pub mod Starting
pub mod Sounding
