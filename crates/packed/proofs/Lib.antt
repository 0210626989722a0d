-- Main has the theorems that are bought: every kind of answer as C gets it, and that it is read back whole.
-- It stands here and not in specs/, so that a definition made wrong is told by a proof that fails.
pub mod Main
