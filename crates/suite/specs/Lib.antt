-- How the tables hold a suite, what the functions claim, and what that says of the suite.
pub mod Tables
pub mod Reads
pub mod Reading
pub mod TableLaws
