-- What is proved of sheets: their bytes, the longest, what the calls leave, readers with other limits, faults, and the samples, which are computed.
-- Main gathers the theorems that are bought, the other files prove them.
-- They stand here and not in specs/, so that a definition made wrong is told by a proof that fails.
pub mod SheetBytes
pub mod SheetLongest
pub mod SheetCalls
pub mod AreaLaws
pub mod SheetReaders
pub mod FaultLaws
pub mod SampleLaws
pub mod Main
