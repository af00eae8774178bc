pub mod Lines
pub mod Counts
pub mod Sets
pub mod Pairs
pub mod Sheets
pub mod All
