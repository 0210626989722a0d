-- Putting a term into the pool: Postfix and Copied are definitions, the other files prove laws that the code's proofs cite.
-- What a pool and its index are is the crate pool's to say.
pub mod Postfix
pub mod PostfixLaws
pub mod Copied
pub mod CopyLaws
pub mod PutLaws
