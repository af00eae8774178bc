pub mod Halts
pub mod Forms
pub mod Orders
pub mod Leaves
pub mod Steps
pub mod Turns
pub mod All
