-- From a book to a table. Definitions, in reading order: Build, Calls, Bought, States, Sample, Refused; the other files prove things of these.
-- Main gathers the theorems that are bought.
pub mod Build
pub mod Calls
pub mod Bought
pub mod BuildLaws
pub mod BuiltFormed
pub mod States
pub mod StateLaws
pub mod CallLaws
pub mod CallTold
pub mod Sample
pub mod Refused
pub mod Main
