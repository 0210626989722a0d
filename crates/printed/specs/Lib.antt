-- Handed says what is answered of the bytes that were printed, and what is known while they are; HandedLaws has a law for each step of the code.
-- Main gathers the theorems that are bought. All that there is to print is specs/Print.antt's of programs; that a part and what is left make it up is
-- specs/Parts.antt's of cut_lines.
pub mod Handed
pub mod HandedLaws
pub mod Main
