-- How next_edge goes through a term: the least edge so far, the place at hand, and those that wait in a list of their own.
-- A place that waits stands for a node that was passed and for one to come, so that half of a short term's nodes is room enough.
use Rattle.std.specs.Prelude.{ℕ, ◌+◌, ◌≤◌, min, ◌≡◌, cond, List, eqb}
use Rattle.number.specs.Limits.{bytes}
use Rattle.meaning.specs.Re.{size}
use Rattle.meaning.specs.Edges.{range_edge, next_edge, next_edge_all}
use Rattle.term.specs.declared.Term.{Term}
use Rattle.term.specs.declared.Term.TheVariants.{Range}
use Rattle.term.specs.Cells.{term}
use Rattle.term.specs.Nodes.{kind_of, first_of, second_of}
use Rattle.term.specs.Places.{terms_at, ahead, Listed}

-- the edge of a term without parts
abbrev pub leaf_edge : Term → ℕ → ℕ
leaf_edge u c = cond (eqb (kind_of u) (kind_of (Range 0 0))) (range_edge c (first_of u) (second_of u)) bytes

-- on the way through the term in cell i: no more places wait than nodes were passed, and the least edge so far, that of the term at hand
-- and those of the terms that wait together make the term's
pub record Passing (s : List ℕ) (i c : ℕ) (l : List ℕ) (count least at : ℕ) : Type 0 where
  pub held : at ≤ i
  pub listed : Listed l count i
  pub few : count + ahead s l count at ≤ size (term s i)
  pub most : least ≤ bytes
  pub edge : min least (min (next_edge c (term s at)) (next_edge_all c (terms_at (term s) l count))) ≡ next_edge c (term s i)
