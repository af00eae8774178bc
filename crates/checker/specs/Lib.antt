-- What the check of a sheet claims.
pub mod Rules
pub mod Checking
