-- The rules of the selector and of its checker, in the order of document 01. A reader needs the definitions (and the Boolean tests of `laws`, in Tests), then Promises.
pub mod Text
pub mod Graph
pub mod ProgramFile
pub mod SuiteFile
pub mod Run
pub mod After
pub mod Closing
pub mod Sheet
pub mod Check
pub mod Job
-- The layouts said without reading, and where the parts of a text stand.
pub mod Layout
pub mod Places
-- What the change requests of document 02 add beside requests, in their order.
pub mod WriteBack
pub mod Former
-- What reading keeps, for the laws of other crates.
pub mod Kept
-- What is promised, as statements. The theorems, and P1 to P8, computed, are in proofs/.
pub mod Promises
