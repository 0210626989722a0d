-- Vectors of terms in the work area. Definitions, in reading order: Layout, Vectors, Memory, Promises; the other files prove laws that the code's proofs cite.
-- What a vector, an item and what is held are is walk's to say; here is how memory holds them.
pub mod Layout
pub mod Vectors
pub mod Memory
pub mod Promises
pub mod PlaceLaws
pub mod MemoryLaws
pub mod PutLaws
pub mod DeriveLaws
