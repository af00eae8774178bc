-- What the exported search returns, and what that says.
pub mod Numbers
