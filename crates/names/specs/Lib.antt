-- Bytes and names of typed rules: Bytes and Names are the definitions, the others prove what the functions need of them.
-- The grammar and its reader are those of the crate typed.
pub mod Bytes
pub mod Names
pub mod ByteLaws
pub mod NameLaws
