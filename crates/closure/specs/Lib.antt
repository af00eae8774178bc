pub mod Once
pub mod State
pub mod Step
pub mod Full
pub mod Claims
