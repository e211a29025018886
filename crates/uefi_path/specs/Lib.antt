pub mod Components
pub mod Parents
pub mod Validity
pub mod Errors
pub mod Meaning
pub mod Laws
