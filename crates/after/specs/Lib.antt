pub mod State
pub mod Claims
