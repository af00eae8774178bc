-- What reading a test file leaves in lent tables, and that such tables hold the suite.
pub mod Lent
pub mod LeftLaws
