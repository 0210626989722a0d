-- What is proved of typed rules: what is spelled is read, and nothing else; where a text is wrong or out of range; the book; the worked texts, computed.
-- Main gathers the theorems that are bought, the other files prove them.
-- They stand here and not in specs/, so that a definition made wrong is told by a proof that fails.
pub mod SpelledIsRead
pub mod ReadIsSpelled
pub mod Completes
pub mod LineLaws
pub mod WrongLaws
pub mod RangeLaws
pub mod BookLaws
pub mod WorkedLaws
pub mod Main
