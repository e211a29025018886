pub mod Tree
pub mod State
pub mod Records
pub mod Calls
pub mod Scripts
pub mod Soundness
pub mod Laws
pub mod Answers
