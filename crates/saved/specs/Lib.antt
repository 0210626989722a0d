-- What becomes of a text of rules, and of a book whose sheet is to be saved: Made and SheetMade say it by what the book, and the sheet, is. Main has the theorems.
-- What reaches the files and the outputs is the system's, and no promise can tell it.
pub mod Made
pub mod SheetMade
pub mod Main
