-- The two calls on the sample books, told as one list: what checking answers, and the kind of each rule and past the last one; and on refused files.
-- The checker computes every line.
use Rattle.std.specs.Prelude.{ℕ, ◌≡◌, refl, List, [], ◌∷◌, ◌++◌, map, take}
use Rattle.number.specs.declared.Refusal.TheVariants.{Short, Tail}
use Rattle.number.specs.Numbers.{due, several, read_number, within, field}
use Rattle.number.specs.Refused.{Outcome}
use Rattle.number.specs.Refused.Outcome.{gives, refuses}
use Rattle.book.specs.Book.{allowed, total}
use Rattle.book.specs.Reads.{read_range, read_either, read_after, read_node, more_nodes, more_rules, book}
use Rattle.book.specs.Calls.{Size, check_of, Told, kind_of}
use Rattle.book.specs.Calls.Told.{kind, none}
use Rattle.book.specs.Sample.{w_bytes}
use Rattle.book.specs.Seven.{seven_bytes}
use Rattle.book.specs.Nine.{nine_bytes}

-- a call on a file, and what it answers
pub data Call : Type 0 where
  check : List ℕ → Outcome Size → Call
  rule : List ℕ → ℕ → Outcome Told → Call

-- either call's answer
pub data Reply : Type 0 where
  size : Outcome Size → Reply
  told : Outcome Told → Reply

abbrev pub replied : Call → Reply
replied (check file x) = size (check_of file)
replied (rule file i x) = told (kind_of file i)

abbrev pub expected : Call → Reply
expected (check file x) = size x
expected (rule file i x) = told x

-- W less its last byte, and with one more
abbrev pub early : List ℕ
early = take 35 w_bytes

abbrev pub late : List ℕ
late = w_bytes ++ (0x00 ∷ [])

abbrev pub asked : List Call
asked =
    check w_bytes (gives (record { rules = 4; nodes = 12 })) ∷
    rule w_bytes 0 (gives (kind 1)) ∷
    rule w_bytes 1 (gives (kind 2)) ∷
    rule w_bytes 2 (gives (kind 3)) ∷
    rule w_bytes 3 (gives (kind 0)) ∷
    rule w_bytes 4 (gives none) ∷
    rule w_bytes 32 (gives none) ∷
    check seven_bytes (gives (record { rules = 5; nodes = 19 })) ∷
    rule seven_bytes 0 (gives (kind 300)) ∷
    rule seven_bytes 1 (gives (kind 7)) ∷
    rule seven_bytes 2 (gives (kind 300)) ∷
    rule seven_bytes 3 (gives (kind 0)) ∷
    rule seven_bytes 4 (gives (kind 16383)) ∷
    rule seven_bytes 5 (gives none) ∷
    check nine_bytes (gives (record { rules = 3; nodes = 33 })) ∷
    rule nine_bytes 0 (gives (kind 5)) ∷
    rule nine_bytes 1 (gives (kind 2)) ∷
    rule nine_bytes 2 (gives (kind 0)) ∷
    rule nine_bytes 3 (gives none) ∷
    check early (refuses (Short 35)) ∷
    rule early 0 (refuses (Short 35)) ∷
    rule early 4 (refuses (Short 35)) ∷
    check late (refuses (Tail 36)) ∷
    rule late 0 (refuses (Tail 36)) ∷
    rule late 4 (refuses (Tail 36)) ∷
    check [] (refuses (Short 0)) ∷
    rule [] 0 (refuses (Short 0)) ∷
    []

pub all_replied : map replied asked ≡ map expected asked
unfolding w_bytes seven_bytes nine_bytes total book more_rules more_nodes read_node read_after read_range read_either allowed field within read_number several due
all_replied = refl
