-- Tables and sheets. Definitions, in reading order: Table, Sheet, Calls, Formed, Faults, Areas, Samples, Promises; the other files prove things of these.
-- Others stand in proofs/, where Main gathers the theorems that are bought.
pub mod Table
pub mod Sheet
pub mod Calls
pub mod Formed
pub mod Faults
pub mod Areas
pub mod Samples
pub mod Promises
pub mod SheetFormed
pub mod SheetRuns
pub mod SheetLaws
pub mod TableLaws
pub mod FillLaws
pub mod RunLaws
