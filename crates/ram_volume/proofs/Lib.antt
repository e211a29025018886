pub mod Helds
pub mod Standings
pub mod Tellings
pub mod Changing
pub mod Files
pub mod Finding
