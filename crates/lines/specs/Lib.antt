-- What the programs print. Definitions, in reading order: Digits, which says how a number looks, Lines, which puts lines together; and for the theorems Values, which reads text back, and Sample, lines as they look.
-- DigitLaws, LineLaws and ValueLaws prove things of these, among them how long a line can get; Main gathers the theorems that are bought.
pub mod Digits
pub mod Lines
pub mod Values
pub mod DigitLaws
pub mod LineLaws
pub mod ValueLaws
pub mod Sample
pub mod Main
