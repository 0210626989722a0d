-- What is proved of the readers and writers of numbers. NumberLaws has the laws, which the code's proofs cite too; FaultLaws is what they refuse.
-- Main gathers the theorems that are bought.
-- All stand here and not in specs/, so that a definition made wrong is told by a proof that fails.
pub mod NumberLaws
pub mod FaultLaws
pub mod Main
