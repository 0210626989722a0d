-- Rest says what the turns from a place on print together, Parts what a part in the buffer and what is still to be printed make up.
-- RestLaws, and PartLaws in proofs/, prove it of the code, and Main there gathers the theorems that are bought; all that is printed is specs/Print.antt's of programs.
pub mod Rest
pub mod Parts
pub mod RestLaws
