-- Comparisons that the checker computes: the sample book W against its own table and against tables that say otherwise, and small rules.
-- Only non-empty texts count. Refusals are told by row and place, some with lower limits of pairs and terms than ours, to be short.
use Rattle.std.specs.Prelude.{ℕ, ◌≡◌, refl, cond, List, [], ◌∷◌, ◌++◌, map, eqb, replicate}
use Rattle.std.proofs.Common.{arith}
use Rattle.number.specs.Limits.{pairs, pool}
use Rattle.number.specs.Refused.{Outcome, row_of}
use Rattle.number.specs.Refused.Outcome.{gives, refuses}
use Rattle.number.specs.Refused.Row.{row}
use Rattle.meaning.specs.Sample.{W}
use Rattle.meaning.specs.Re.{Re, size}
use Rattle.meaning.specs.Re.Re.{Empty, Range, Cat, Alt, Star}
use Rattle.meaning.specs.Order.{order}
use Rattle.meaning.specs.Normal.{chain, cat, gathered, kept, placed, sorted, nested, alt, star, normal}
use Rattle.meaning.specs.Derive.{nullable, deriv}
use Rattle.meaning.specs.Limited.{deriv_fit, normal_fit}
use Rattle.meaning.specs.Rules.{label_from}
use Rattle.walk.specs.Vectors.{derived, normalised, same_vector}
use Rattle.walk.specs.Parts.{holds, with_term, with_parts, with_vector}
use Rattle.walk.specs.Walk.{number_in, come, step, row as walk_row, rows as walk_rows, walk_from}
use Rattle.table.specs.Table.{Table}
use Rattle.built.specs.Build.{build_rules}
use Rattle.verdict.specs.Compare.{Verdict, first_differing, compare_rules_to, compare_rules}
use Rattle.verdict.specs.Compare.Verdict.{Same, Differs}
use Rattle.verdict.specs.OwnSheet.{own_same}

-- ---- tables

-- one state, which leads to itself
abbrev flat : ℕ → Table
flat l = record { count = 1; labels = l ∷ []; targets = replicate 256 0 }

-- rules against the table that our build makes of them, changed so
abbrev against : (Table → Table) → List Re → Outcome Table → Outcome Verdict
against change rs (refuses r) = refuses r
against change rs (gives t) = compare_rules (change t) rs

abbrev own : (Table → Table) → List Re → Outcome Verdict
own change rs = against change rs (build_rules rs)

abbrev count_of : Outcome Table → ℕ
count_of (gives t) = t.count
count_of (refuses r) = 0

abbrev unchanged : Table → Table
unchanged t = t

-- with other labels
abbrev labelled : List ℕ → Table → Table
labelled ls t = record { count = t.count; labels = ls; targets = t.targets }

-- with state m merged into state n: whatever led to m leads to n
abbrev merged : ℕ → ℕ → Table → Table
merged m n t = record { count = t.count; labels = t.labels; targets = map (λ q. cond (eqb q m) n q) t.targets }

-- two states that every byte exchanges, both labelled 1
abbrev exchanged : Table
exchanged = record { count = 2; labels = 1 ∷ 1 ∷ []; targets = replicate 256 1 ++ replicate 256 0 }

-- ---- rules

abbrev a : Re
a = Range 97 97

abbrev b : Re
b = Range 98 98

abbrev c : Re
c = Range 99 99

-- every text
abbrev every : Re
every = Star (Range 0 255)

-- c sixteen times, from doubled halves: 31 nodes
abbrev twice : Re → Re
twice r = Cat r r

abbrev sixteen : Re
sixteen = twice (twice (twice (twice c)))

-- 257 nodes in normal form
abbrev long_rule : Re
long_rule = Cat c (twice (twice (twice sixteen)))

-- `a` leads back to its start, `b` to a term whose derivative by c is too long
abbrev long_later : Re
long_later = Star (Alt a (Cat b (Cat (Star sixteen) sixteen)))

abbrev abc : Re
abc = Cat a (Cat b c)

-- ---- answers

-- document 01's two comparisons of W
abbrev pub WorkedSheets : Type 0
WorkedSheets = (own unchanged W ≡ gives Same) × (own (merged 5 4) W ≡ gives (Differs (116 ∷ 111 ∷ []) 1 2))

-- W builds, and a table that is built is found the same
states_w : count_of (build_rules W) ≡ 7
unfolding build_rules walk_from walk_rows walk_row step come number_in with_vector with_parts with_term holds same_vector derived normalised label_from deriv_fit normal_fit deriv nullable normal star alt nested sorted placed kept gathered cat chain order size
states_w = refl

own_w : own unchanged W ≡ gives Same
own_w = go (build_rules W) refl states_w
  where
    go : (o : Outcome Table) → build_rules W ≡ o → count_of o ≡ 7 → against unchanged W o ≡ gives Same
    go (gives t) e l = own_same W t e
    go (refuses r) e l = absurd (omega arith)

merged_w : own (merged 5 4) W ≡ gives (Differs (116 ∷ 111 ∷ []) 1 2)
unfolding compare_rules first_differing build_rules walk_from walk_rows walk_row step come number_in with_vector with_parts with_term holds same_vector derived normalised label_from deriv_fit normal_fit deriv nullable normal star alt nested sorted placed kept gathered cat chain order size
merged_w = refl

pub worked_sheets : WorkedSheets
worked_sheets = (own_w, merged_w)

abbrev pub WorkedAnswers : Type 0
WorkedAnswers =
    -- no text leads back to the start of a rule `a`, so its label does not matter; `ab` leads back to that of (ab)*, and `a` to that of a*
    (own (labelled (1 ∷ 0 ∷ 1 ∷ [])) (a ∷ []) ≡ gives Same)
    × (own (labelled (0 ∷ 0 ∷ 0 ∷ [])) (Star (Cat a b) ∷ []) ≡ gives (Differs (97 ∷ 98 ∷ []) 1 0))
    × (own (labelled (0 ∷ 0 ∷ [])) (Star a ∷ []) ≡ gives (Differs (97 ∷ []) 1 0))
    -- a rule that the empty text alone matches
    × (compare_rules (flat 0) (Empty ∷ []) ≡ gives Same)
    -- other states and targets than our build's are no difference
    × (compare_rules exchanged (every ∷ []) ≡ gives Same)
    -- a label above the rules is an ordinary one, and differs
    × (compare_rules (flat 2) (every ∷ []) ≡ gives (Differs (0 ∷ []) 1 2))
    × (compare_rules (flat 32) (Empty ∷ []) ≡ gives (Differs (0 ∷ []) 0 32))
    -- the shorter text, though its byte is higher and its rule later; of two texts of one length, the lower
    × (compare_rules (flat 0) (Cat a a ∷ b ∷ []) ≡ gives (Differs (98 ∷ []) 2 0))
    × (compare_rules (flat 0) (b ∷ a ∷ []) ≡ gives (Differs (97 ∷ []) 2 0))
    -- just as many pairs, or terms, as there are
    × (compare_rules_to 3 pool (flat 0) (Star (Cat a b) ∷ []) ≡ gives (Differs (97 ∷ 98 ∷ []) 1 0))
    × (compare_rules_to pairs 7 (flat 0) (abc ∷ []) ≡ gives (Differs (97 ∷ 98 ∷ 99 ∷ []) 1 0))

pub worked_answers : WorkedAnswers
unfolding compare_rules first_differing build_rules walk_from walk_rows walk_row step come number_in with_vector with_parts with_term holds same_vector derived normalised label_from deriv_fit normal_fit deriv nullable normal star alt nested sorted placed kept gathered cat chain order size
worked_answers = (refl, refl, refl, refl, refl, refl, refl, refl, refl, refl, refl)

-- ---- refusals, by row and place

abbrev pub WorkedRefusals : Type 0
WorkedRefusals =
    -- the rules themselves are too long; so is a derivative two pairs later, where the start has come back and keeps number 0
    (row_of (compare_rules (flat 0) (a ∷ long_rule ∷ [])) ≡ row 6 0)
    × (row_of (compare_rules (flat 0) (long_later ∷ [])) ≡ row 6 2)
    -- a pair too many: when the start comes back, from the start itself and from pair 2
    × (row_of (compare_rules_to 1 pool (flat 0) (Star a ∷ [])) ≡ row 12 0)
    × (row_of (compare_rules_to 2 pool (flat 0) (Star (Cat a b) ∷ [])) ≡ row 12 2)
    -- a term too many: in vector 0, and with Empty after abc; there a pair too many comes before it
    × (row_of (compare_rules_to pairs 4 (flat 0) (abc ∷ [])) ≡ row 7 0)
    × (row_of (compare_rules_to pairs 6 (flat 0) (abc ∷ [])) ≡ row 7 3)
    × (row_of (compare_rules_to 3 6 (flat 0) (abc ∷ [])) ≡ row 12 3)

pub worked_refusals : WorkedRefusals
unfolding compare_rules first_differing build_rules walk_from walk_rows walk_row step come number_in with_vector with_parts with_term holds same_vector derived normalised label_from deriv_fit normal_fit deriv nullable normal star alt nested sorted placed kept gathered cat chain order size
worked_refusals = (refl, refl, refl, refl, refl, refl, refl)
