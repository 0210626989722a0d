-- PartLaws proves what the code's parts make up; Main gathers the theorems that are bought.
-- They stand here and not in specs/, so that a definition made wrong is told by a proof that fails.
pub mod PartLaws
pub mod Main
