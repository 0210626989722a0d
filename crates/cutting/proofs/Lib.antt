-- Parts of proofs that more than one function, or none in particular, has a use for.
-- The proofs themselves stand in the folders of their functions.
pub mod Byte
