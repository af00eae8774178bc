-- What is found of the edges that need a probe, and of those after a danger.
pub mod Starts
pub mod Sets
