-- The build: a walk over vectors beside a sheet of one state, at most 255 of them; each vector found is a state of the table.
-- A state's label is 1 plus the first rule whose term matches the empty text, or 0.
use Rattle.std.specs.Prelude.{ℕ, List, map, length}
use Rattle.number.specs.declared.Refusal.TheVariants.{States}
use Rattle.number.specs.Limits.{states, pool}
use Rattle.number.specs.Refused.{Outcome}
use Rattle.number.specs.Refused.Outcome.{gives, refuses}
use Rattle.meaning.specs.Re.{Re}
use Rattle.meaning.specs.Rules.{label}
use Rattle.table.specs.Table.{Table}
use Rattle.walk.specs.Walk.{Held, Way, Walked, walk_from}
use Rattle.walk.specs.Walk.Walked.{halted, walked}

-- beside one state that leads to itself, with room for so many states and terms
abbrev pub alone_to : ℕ → ℕ → Way
alone_to most terms = record { go = λ q c. 0; limit = most; terms = terms; full = States; told = λ xs i. i }

abbrev pub alone : Way
alone = alone_to states pool

abbrev pub table_of : Held → List ℕ → Table
table_of h targets = record { count = length h.items; labels = map (λ x. label x.vector) h.items; targets = targets }

abbrev pub built_of : Walked → Outcome Table
built_of (halted r) = refuses r
built_of (walked h targets) = gives (table_of h targets)

-- the table of a row of rules, or the refusal that its walk comes to: with so many states and terms allowed, and with ours
abbrev pub build_rules_to : ℕ → ℕ → List Re → Outcome Table
build_rules_to most terms rs = built_of (walk_from (alone_to most terms) rs)

unfoldable pub build_rules : List Re → Outcome Table
build_rules rs = build_rules_to states pool rs
