-- What the programs put out, for every input. Definitions, in reading order: Output, the lines of a cut; Print, all that each program puts out; then, in proofs/, Sample and Prints.
-- StandLaws and PrintLaws serve the code's crates too; proofs/Main.antt gathers the theorems that are bought.
pub mod Output
pub mod Print
pub mod StandLaws
pub mod PrintLaws
