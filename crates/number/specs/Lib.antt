-- Numbers in files. Definitions, in reading order: Limits, Refused, Rows, Numbers, Faults, Reading, Lists (what writing does to memory: `written`, `Writes`), Promises, Sample; and Quoted, for lists of texts in the layers above.
-- The other files, and what else Lists claims, are proved; proofs/Main.antt gathers the theorems that are bought.
pub mod Limits
pub mod Refused
pub mod Rows
pub mod Numbers
pub mod Faults
pub mod Reading
pub mod Lists
pub mod Promises
pub mod Branch
pub mod RowLaws
pub mod Quoted
pub mod Sample
pub mod MainLaws
