-- Terms in the work area. Definitions, in reading order: Cells, Area, Nodes, Places, Counts, Compares; the other files prove laws that the code's proofs cite.
-- Callers above use the laws of `term`, never cells.
pub mod Cells
pub mod Area
pub mod Nodes
pub mod Places
pub mod Counts
pub mod Compares
pub mod ReadLaws
pub mod CellLaws
pub mod PlaceLaws
pub mod CountLaws
pub mod CompareLaws
