-- One row of a table in the table area. Definition: Fill; FillLaws proves what the code's proof cites.
-- Two of its laws, on numbers that are laid one run behind another, are for the rows too.
pub mod Fill
pub mod FillLaws
