pub mod Held
pub mod ReadOld
pub mod ReadNew
pub mod ReadTests
pub mod Calls
-- What is promised of the lent job, as statements. Their proofs are in proofs/, under the same names.
pub mod Progress
pub mod Answers
pub mod ProgramBack
pub mod Chain
