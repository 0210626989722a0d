-- What comparing a book with a table answers. Definitions, in reading order: Compare, Calls, Demand, Called, Sample; the other files prove things of these.
-- Main gathers the theorems that are bought.
pub mod Compare
pub mod Calls
pub mod Demand
pub mod Called
pub mod NumberLaws
pub mod CompareLaws
pub mod PairLaws
pub mod CutsAlike
pub mod OwnSheet
pub mod VerdictLaws
pub mod CallLaws
pub mod Sample
pub mod Main
