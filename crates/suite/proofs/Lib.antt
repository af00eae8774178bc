pub mod Laws
pub mod Digits
pub mod Forms
pub mod Stores
pub mod Turns
pub mod All
