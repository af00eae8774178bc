-- How a table holds the coverage of tests, what the functions claim, and what that says of the coverage.
pub mod Rows
pub mod RowLaws
