-- Put says what stands in the buffer and what sheet_bytes answers; Main has the theorems that are bought.
-- The laws are the code's.
pub mod Put
pub mod PutLaws
pub mod Main
