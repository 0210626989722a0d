-- Typed rules made a book: Promises is what the call promises, Passes and Sums what its parts do; the others prove it.
-- What a text means is in the crate typed.
pub mod Promises
pub mod Passes
pub mod Sums
pub mod PassLaws
pub mod SumLaws
