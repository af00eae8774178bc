pub mod Callees
pub mod Kinds
pub mod Forms
pub mod Stands
pub mod Known
