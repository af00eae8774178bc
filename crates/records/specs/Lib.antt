pub mod Nodes
pub mod NodeLaws
pub mod Jobs
pub mod Shown
