pub mod Adding
pub mod Returns
pub mod Search
pub mod All
