-- ToldLines has the lines of the code's answer, and ToldLinesLaws proves that they are the verdict's.
-- What all of it comes to is specs/Print.antt's of the crate programs.
pub mod ToldLines
pub mod ToldLinesLaws
