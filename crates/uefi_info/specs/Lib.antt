pub mod Infos
pub mod Names
pub mod Parsed
pub mod Records
pub mod Refusals
pub mod Layouts
