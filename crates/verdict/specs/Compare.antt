-- The comparison: pairs of a table's state and a vector are walked from the start, and the walk is finished first. Only non-empty texts count.
-- Then the first pair found whose labels differ is shown by its text; if there is none, book and table are the same.
use Rattle.std.specs.Prelude.{ℕ, zero, suc, ◌-◌, cond, List, [], ◌∷◌, eqb, ltb, get_or, drop}
use Rattle.number.specs.declared.Refusal.TheVariants.{Pairs}
use Rattle.number.specs.Limits.{pairs, pool}
use Rattle.number.specs.Refused.{Outcome}
use Rattle.number.specs.Refused.Outcome.{gives, refuses}
use Rattle.meaning.specs.Re.{Re, Text}
use Rattle.meaning.specs.Rules.{label}
use Rattle.table.specs.Table.{Table}
use Rattle.cutting.specs.Steps.{step_in, label_at}
use Rattle.walk.specs.Walk.{Item, none, Held, number_in, Way, Walked, walk_from}
use Rattle.walk.specs.Walk.Walked.{halted, walked}

-- An entry stands in front of the table: an item's `sheet` is 0 at the entry, where nothing has been read, and q + 1 at state q.
-- The entry goes on as state 0 does, and nothing leads to it: so the entry is item 0, and the other items are the pairs that a non-empty text reaches.
-- The start is one of these if some text leads back to it, from that step on.
abbrev pub state_of : ℕ → ℕ
state_of zero = 0
state_of (suc q) = q

-- the start: state 0 and vector 0
abbrev pub start_pair : List Item → Item
start_pair xs = record { sheet = 1; vector = (get_or xs 0 none).vector; text = [] }

-- the number told for item i: 0 for the start, met again too; the other pairs are 1, 2, .. in the order found
abbrev pub told_by : ℕ → ℕ → ℕ
told_by back i = cond (eqb back i) 0 (cond (ltb back i) (i - 1) i)

abbrev pub number_told : List Item → ℕ → ℕ
number_told xs i = told_by (number_in xs (start_pair xs)) i

-- beside the table, with room for the entry and so many pairs, and for so many terms
abbrev pub beside_to : ℕ → ℕ → Table → Way
beside_to most terms t = record { go = λ q c. suc (step_in t (state_of q) c); limit = suc most; terms = terms; full = Pairs; told = number_told }

abbrev pub beside : Table → Way
beside = beside_to pairs pool

-- the pairs that a non-empty text reaches
abbrev pub found : Held → List Item
found h = drop 1 h.items

-- the same, or a text with the book's label and the table's
pub data Verdict : Type 0 where
  Same : Verdict
  Differs : Text → ℕ → ℕ → Verdict

abbrev pub book_label : Item → ℕ
book_label x = label x.vector

abbrev pub table_label : Table → Item → ℕ
table_label t x = label_at t (state_of x.sheet)

-- the first of the pairs whose labels differ
unfoldable pub first_differing : Table → List Item → Verdict
first_differing t [] = Same
first_differing t (x ∷ xs) =
    cond (eqb (book_label x) (table_label t x)) (first_differing t xs) (Differs x.text (book_label x) (table_label t x))

abbrev pub compared_by : Table → Walked → Outcome Verdict
compared_by t (halted r) = refuses r
compared_by t (walked h js) = gives (first_differing t (found h))

-- the comparison of a table with a row of rules: with so many pairs and terms allowed, and with ours
abbrev pub compare_rules_to : ℕ → ℕ → Table → List Re → Outcome Verdict
compare_rules_to most terms t rs = compared_by t (walk_from (beside_to most terms t) rs)

unfoldable pub compare_rules : Table → List Re → Outcome Verdict
compare_rules t rs = compare_rules_to pairs pool t rs
