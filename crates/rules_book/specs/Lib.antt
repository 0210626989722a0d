-- The book that the program rules makes of words.rules. Definitions: Print says which it is, and what rules_book promises; the other files prove things of these.
-- Main has the theorem that is bought. What a rightly typed text is, and its book, is in the crate typed.
pub mod Print
pub mod PrintLaws
pub mod FileLaws
pub mod Main
