-- Nodes laid into cells: Laid, Tables and Bytes are the definitions, the others prove what the functions need of them.
-- The nodes themselves, and the sets' ranges, are those of the crate typed.
pub mod Laid
pub mod Tables
pub mod Bytes
pub mod LaidLaws
pub mod TableLaws
pub mod ByteLaws
