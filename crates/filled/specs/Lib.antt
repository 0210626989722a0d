-- A table in the table area, from what the walk holds. Definition: Tabled; TabledLaws proves what the code's proofs cite.
-- A row is filled as row's Fill says.
pub mod Tabled
pub mod TabledLaws
