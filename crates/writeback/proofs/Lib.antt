pub mod PartLaws
pub mod Ranges
pub mod BackLaws
pub mod Parts
pub mod Lines
pub mod All
