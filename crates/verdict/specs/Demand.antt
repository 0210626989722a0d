-- The words in which the theorems on comparing are stated, apart from any walk: cuts that are alike, and the pairs that texts lead to.
-- Pairs are numbered, and limits passed, as Passing in walk tells it of texts alone; the walk of Compare is proved to tell the same.
use Rattle.std.specs.Prelude.{ℕ, ◌<◌, ◌≤◌, ◌≡◌, List, length}
use Rattle.number.specs.Limits.{pairs, shown_text}
use Rattle.number.specs.Numbers.{Bytes}
use Rattle.meaning.specs.Re.{Re, Text}
use Rattle.meaning.specs.Rules.{Names}
use Rattle.meaning.specs.Words.{reach, FirstWord}
use Rattle.table.specs.Table.{Table}
use Rattle.cutting.specs.Steps.{step_in, label_of, FirstBy}
use Rattle.cutting.specs.Cut.{Cut, Cuts}
use Rattle.walk.specs.Texts.{Sooner, NotLater}
use Rattle.walk.specs.Passing.{vector_after, Holding}

-- ---- answers

-- both cut a text alike: one cut is its cut by the rules, as the textbook has it, and its cut by the table,
-- with the same words, under the same rules, and the same ending
abbrev pub CutAlike : List Re → Table → ℕ → ℕ → Text → Type 0
CutAlike rs t room at text = (x : Cut) × Cuts (FirstWord rs) room at text x × Cuts (FirstBy t) room at text x

-- the whole text, from its beginning and with a record for every word
abbrev pub WholeAlike : List Re → Table → Text → Type 0
WholeAlike rs t text = CutAlike rs t (length text) 0 text

-- both agree on a text: the table's label is the one that names the text by the rules
abbrev pub AgreeOn : List Re → Table → Text → Type 0
AgreeOn rs t w = Names rs w (label_of t w)

-- a shown text has 1 to 512 bytes and these labels, which differ; the two cuts of it differ;
-- every sooner text is cut alike, from every place and with every room; no non-empty text on which they do not agree is sooner
pub record Differ (rs : List Re) (t : Table) (text : Text) (x y : ℕ) : Type 0 where
  pub is_text : Bytes text
  pub some : 0 < length text
  pub short : length text ≤ shown_text
  pub by_book : Names rs text x
  pub by_table : label_of t text ≡ y
  pub differ : x ≡ y → ⊥
  pub cuts_differ : WholeAlike rs t text → ⊥
  pub first : (w : Text) → Bytes w → Sooner w text → (room at : ℕ) → CutAlike rs t room at w
  pub first_label : (w : Text) → Bytes w → 0 < length w → (AgreeOn rs t w → ⊥) → NotLater text w

-- ---- pairs

-- what a text leads to: a state by the table, and a vector by the rules
pub record Both : Type 0 where
  pub state : ℕ
  pub vector : List Re

abbrev pub pair_after : List Re → Table → Text → Both
pair_after rs t w = record { state = reach (step_in t) 0 w; vector = vector_after rs w }

-- a comparison holds the pairs that non-empty texts lead to; row 12, Pairs, is for one more than there may be
abbrev pub held_pairs : List Re → Table → Holding Both
held_pairs rs t = record { rules = rs; goal = pair_after rs t; from = 1; most = pairs; full = 12 }
