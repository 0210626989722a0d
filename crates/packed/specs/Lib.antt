-- Our calls as C sees them. Packed says how an answer becomes numbers, and is all that the contracts add to the crates below.
-- Unpacked says how it is read back; that nothing is lost on the way is proved in proofs/Main.antt.
pub mod Packed
pub mod Unpacked
