-- What the writers write, and what it says of the sheet and of the record lines.
pub mod Laws
pub mod Writes
pub mod Texts
pub mod Claims
pub mod Measured
pub mod Sheets
