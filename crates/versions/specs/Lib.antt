-- A program in memory, and what the functions over two versions answer.
pub mod Memory
pub mod MemoryLaws
pub mod Callees
pub mod Called
pub mod Found
pub mod Claims
pub mod Opposite
pub mod PairsHeld
pub mod Groups
