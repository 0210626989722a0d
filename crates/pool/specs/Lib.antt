-- The pool in the work area: the terms of the held vectors and all their parts, each in one cell.
-- Definitions: Pooled, Index, Steps; the other files prove laws that the code's proofs cite.
pub mod Pooled
pub mod Index
pub mod Steps
pub mod PoolLaws
pub mod IndexLaws
pub mod NodeLaws
pub mod ClosedLaws
