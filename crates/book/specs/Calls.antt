-- What the calls on books answer, for every input: the promises of check_book and rule_kind cite these.
-- A refusal is the paper's by Refused.
use Rattle.std.specs.Prelude.{ℕ, cond, List, ltb, length, Option, Some, None, Result, Ok, Err}
use Rattle.number.specs.declared.Refusal.{Refusal}
use Rattle.number.specs.Refused.{Answer, Outcome}
use Rattle.number.specs.Refused.Answer.{got, refused}
use Rattle.number.specs.Refused.Outcome.{gives, refuses}
use Rattle.book.specs.Book.{Book, total}
use Rattle.book.specs.Reads.{read_book}
use Rattle.book.specs.Places.{rule_of}

-- how many rules, and how many nodes in all
pub record Size : Type 0 where
  pub rules : ℕ
  pub nodes : ℕ

abbrev pub checked : Result (ℕ × ℕ) Refusal → Outcome Size
checked (Ok (n, m)) = gives (record { rules = n; nodes = m })
checked (Err r) = refuses r

-- checking alone answers the rule count and the node total
abbrev pub size_of : Answer Book → Outcome Size
size_of (got b after) = gives (record { rules = length b.rules; nodes = total b.rules })
size_of (refused r) = refuses r

abbrev pub check_of : List ℕ → Outcome Size
check_of file = size_of (read_book file)

-- a rule's kind, or that there is no such rule
pub data Told : Type 0 where
  kind : ℕ → Told
  none : Told

abbrev pub kind_told : Result (Option ℕ) Refusal → Outcome Told
kind_told (Ok (Some n)) = gives (kind n)
kind_told (Ok None) = gives none
kind_told (Err r) = refuses r

abbrev pub kind_in : Answer Book → ℕ → Outcome Told
kind_in (got b after) i = gives (cond (ltb i (length b.rules)) (kind (rule_of b i).kind) none)
kind_in (refused r) i = refuses r

abbrev pub kind_of : List ℕ → ℕ → Outcome Told
kind_of file i = kind_in (read_book file) i
