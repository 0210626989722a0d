-- Rules typed as text. Definitions, in reading order: Sets, Exp, Spells, Lines; then what is computed: Scan, Reader, LineReader, Calls;
-- then what the theorems say: Bought, Classes, Worked. proofs/Main.antt has the theorems; the other files, here and there, prove them.
pub mod Sets
pub mod Exp
pub mod Spells
pub mod Lines
pub mod Scan
pub mod Reader
pub mod LineReader
pub mod Calls
pub mod Bought
pub mod Classes
pub mod Worked
pub mod TestLaws
pub mod ScanLaws
pub mod NewlineLaws
pub mod ClassLaws
pub mod PostfixLaws
pub mod CallLaws
pub mod AnswerLaws
