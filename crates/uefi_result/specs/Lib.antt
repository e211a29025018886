pub mod Errors
pub mod Failures
pub mod StatusCodes
