-- Turned says what a turn puts and answers; TurnedLaws has the laws of the code that does it.
-- That the turns together put what one would is specs/RestLaws.antt's of the crate cut_lines.
pub mod Turned
pub mod TurnedLaws
