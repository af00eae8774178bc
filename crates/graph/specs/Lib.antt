pub mod Table
pub mod Callees
pub mod Keys
pub mod Lookups
pub mod Reads
