pub mod Scans
pub mod SplitLaws
pub mod Puts
pub mod NumberLaws
pub mod Hash
pub mod Runs
