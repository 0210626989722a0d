-- An expression read: Reads and Steps are what the readers' contracts say, the others prove it arm by arm.
-- The byte-by-byte reader is that of the crate typed.
pub mod Reads
pub mod Steps
pub mod GoesLaws
pub mod LeafLaws
pub mod PartLaws
