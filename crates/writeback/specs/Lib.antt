-- A program written back from its tables, and what that says of the text that was read.
pub mod Parts
pub mod Back
pub mod Runs
