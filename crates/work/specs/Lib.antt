pub mod Work
pub mod Loads
