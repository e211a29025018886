pub mod Telling
pub mod Turning
pub mod Fetching
