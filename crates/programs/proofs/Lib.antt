-- Definitions that stand beside their computation: Sample, two texts and their lines; Prints, fifteen pairs of files and what is printed for them.
-- Main gathers the theorems that are bought; FileLaws and MainLaws prove them.
-- All stand here and not in specs/, so that a definition made wrong is told by a proof that fails.
pub mod Sample
pub mod Prints
pub mod FileLaws
pub mod MainLaws
pub mod Main
