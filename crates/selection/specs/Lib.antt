-- What is found of two versions that were compared: the dangerous edges as a set, the tests to repeat, and a test's marks.
pub mod Compared
pub mod Dangers
pub mod DangerLaws
pub mod Marks
pub mod MarkLaws
