-- What a sheet's reader promises, what is kept while it reads, and what its inner functions claim.
pub mod Claims
pub mod Reading
