-- The inner readers' answers as the paper has them, and where a rule's nodes begin, for the layers that read them one by one.
-- The promises of the code's inner functions cite these; PlaceLaws joins the way to a rule to its place.
use Rattle.std.specs.Prelude.{ℕ, zero, suc, cond, List, ltb, length, Option, Some, None, Result, Ok, Err}
use Rattle.number.specs.Limits.{first_version, last_version, rules, kinds, nodes}
use Rattle.number.specs.declared.Refusal.{Refusal}
use Rattle.number.specs.declared.Refusal.TheVariants.{Input}
use Rattle.number.specs.Refused.{Answer}
use Rattle.number.specs.Refused.Answer.{got, refused}
use Rattle.number.specs.Numbers.{field}
use Rattle.number.specs.Reading.{Reader, ◌>>=◌, answer, here}
use Rattle.book.specs.declared.Node.{Node}
use Rattle.book.specs.declared.RulePlace.{RulePlace}
use Rattle.book.specs.Book.{Book}
use Rattle.book.specs.Reads.{read_nodes, read_book}
use Rattle.book.specs.Places.{rule_of, nodes_at}

abbrev pub node_read : Result (Node × ℕ) Refusal → Answer Node
node_read (Ok (n, next)) = got n next
node_read (Err r) = refused r

-- a place is the one that was reached
abbrev pub place_read : Result RulePlace Refusal → Answer RulePlace
place_read (Ok p) = got p p.at
place_read (Err r) = refused r

-- why a number was not read; of one that was read nobody asks it
abbrev pub refusal_of : Result (ℕ × ℕ) Refusal → Refusal
refusal_of (Ok read) = Input
refusal_of (Err r) = r

module _ (file : List ℕ) where
  -- in a book of version v: a rule's kind, its node count and the place of its first node
  unfoldable pub read_head : ℕ → Reader RulePlace
  read_head v = do
    kind ← field file 0 kinds
    count ← field file 1 nodes
    first ← here
    answer (record { version = v; kind = kind; nodes = count; at = first })

  -- past k rules
  unfoldable pub find_rule : ℕ → ℕ → Reader RulePlace
  find_rule v zero = read_head v
  find_rule v (suc k) = do
    head ← read_head v
    passed ← read_nodes file v head.nodes
    find_rule v k

  -- in a whole file, past the version and the rule count
  unfoldable pub find_from : ℕ → Reader RulePlace
  find_from rule = do
    v ← field file first_version last_version
    n ← field file 1 rules
    find_rule v rule

-- a rule of a book, and where it stands in the book's file
abbrev pub place_at : Book → ℕ → RulePlace
place_at b i = record { version = b.version; kind = (rule_of b i).kind; nodes = length (rule_of b i).nodes; at = nodes_at b i }

-- of no such rule, and of a refused book, none
abbrev pub place_in : Answer Book → ℕ → Option RulePlace
place_in (got b after) i = cond (ltb i (length b.rules)) (Some (place_at b i)) None
place_in (refused r) i = None

abbrev pub place_of : List ℕ → ℕ → Option RulePlace
place_of file i = place_in (read_book file) i
