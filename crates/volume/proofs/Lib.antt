pub mod Puts
pub mod Trees
pub mod Changes
pub mod Counting
pub mod Sounding
pub mod Effects
pub mod Lawful
pub mod Running
