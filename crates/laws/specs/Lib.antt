-- Definitions and laws that several crates cite: Boolean tests over numbers and lists, and their laws; parts of lists and stores into them; rows in a table; digits of numbers; bits of words; chains in a table, and loops along them; the smallest closed set.
pub mod Tests
pub mod Places
pub mod TestLaws
pub mod Lists
pub mod Counting
pub mod Slices
pub mod Tables
pub mod Digits
pub mod Bits
pub mod BitSets
pub mod Chain
pub mod Those
pub mod Fold
pub mod Reach
