-- What the reader promises, and what it keeps while it reads.
pub mod Result
pub mod Reading
