pub mod Dangers
pub mod Hits
pub mod Counterparts
pub mod Marks
pub mod All
