-- The lines of a comparison from the code's answer and the text area; a shown text lies within the area.
-- They are the verdict's (specs/ToldLinesLaws.antt).
use Rattle.std.specs.Prelude.{ℕ, ◌≤◌, Option, Some, None, Result, Ok, Err, List, ◌++◌, length, take}
use Rattle.lines.specs.Lines.{refused_line, same_line, differs_line, hex_line}
use Rattle.number.specs.declared.Refusal.{Refusal}
use Rattle.verdict.specs.declared.Difference.{Difference}

abbrev pub told_lines : List ℕ → Result (Option Difference) Refusal → List ℕ
told_lines area (Ok None) = same_line
told_lines area (Ok (Some d)) = differs_line d.len d.by_book d.by_table ++ hex_line (take d.len area)
told_lines area (Err r) = refused_line r

abbrev pub Inside : List ℕ → Result (Option Difference) Refusal → Type 0
Inside area (Ok None) = Unit {0}
Inside area (Ok (Some d)) = d.len ≤ length area
Inside area (Err r) = Unit {0}
