-- How a rule book is read: every refusal of documents 01 and 02 at its place, in the order in which the bytes come.
-- Reading goes down the counts that the book gives, so it ends.
use Rattle.std.specs.Prelude.{ℕ, zero, suc, ◌+◌, ◌-◌, not, cond, List, [], ◌∷◌, ltb, eqb}
use Rattle.number.specs.declared.Refusal.TheVariants.{Range as OutOfRange, Stack}
use Rattle.number.specs.Limits.{first_version, last_version, rules, kinds, nodes, last_byte, first_letter, last_letter}
use Rattle.number.specs.Limits.{code_nothing, code_empty, code_range, code_cat, code_alt, code_star, code_either, code_and, code_not}
use Rattle.number.specs.Refused.{Answer}
use Rattle.number.specs.Refused.Answer.{refused}
use Rattle.number.specs.Numbers.{read_number, field}
use Rattle.number.specs.Reading.{Reader, ◌>>=◌, ◌>>◌, answer, here, refuse_if, end}
use Rattle.book.specs.declared.Node.{Node}
use Rattle.book.specs.declared.Node.TheVariants.{Nothing, Empty, Range, Cat, Alt, Star, Either, And, Not}
use Rattle.book.specs.Book.{Rule, Book, allowed, takes}

module _ (file : List ℕ) where
  -- a range has lo and hi, which is not below lo
  unfoldable pub read_range : Reader Node
  read_range = do
    lo ← field file 0 last_byte
    hi ← field file lo last_byte
    answer (Range lo hi)

  -- an Either has its letter
  unfoldable pub read_either : Reader Node
  read_either = do
    x ← field file first_letter last_letter
    answer (Either x)

  -- a number that is no code is refused where it stands
  abbrev pub no_code : ℕ → Reader Node
  no_code at_code = λ at. refused (OutOfRange at_code)

  -- what stands after each code, if version v has it;
  -- the last line is for a number that is no code of any version (so far `allowed` refuses it before)
  unfoldable pub read_after : ℕ → ℕ → ℕ → Reader Node
  read_after v at_code code =
      cond (not (allowed v code)) (no_code at_code)
      (cond (eqb code code_nothing) (answer Nothing)
      (cond (eqb code code_empty) (answer Empty)
      (cond (eqb code code_range) read_range
      (cond (eqb code code_cat) (answer Cat)
      (cond (eqb code code_alt) (answer Alt)
      (cond (eqb code code_star) (answer Star)
      (cond (eqb code code_either) read_either
      (cond (eqb code code_and) (answer And)
      (cond (eqb code code_not) (answer Not)
      (no_code at_code))))))))))

  -- a node of a book of version v
  unfoldable pub read_node : ℕ → Reader Node
  read_node v = do
    at_code ← here
    code ← read_number file
    read_after v at_code code

  -- k nodes more, where so many terms stand: an operator finds its terms, and one term is left at the end
  unfoldable pub more_nodes : ℕ → ℕ → ℕ → Reader (List Node)
  more_nodes v zero terms = do
    after ← here
    refuse_if (not (eqb terms 1)) (Stack after)
    answer []
  more_nodes v (suc k) terms = do
    at_code ← here
    n ← read_node v
    refuse_if (ltb terms (takes n)) (Stack at_code)
    rest ← more_nodes v k (terms - takes n + 1)
    answer (n ∷ rest)

  -- the m nodes of a rule: before the first of them no term stands
  abbrev pub read_nodes : ℕ → ℕ → Reader (List Node)
  read_nodes v m = more_nodes v m 0

  -- k rules more, where so many nodes have been read
  unfoldable pub more_rules : ℕ → ℕ → ℕ → Reader (List Rule)
  more_rules v zero used = answer []
  more_rules v (suc k) used = do
    kind ← field file 0 kinds
    at_count ← here
    m ← field file 1 nodes
    refuse_if (ltb nodes (used + m)) (OutOfRange at_count)
    ns ← read_nodes v m
    rest ← more_rules v k (used + m)
    answer (record { kind = kind; nodes = ns } ∷ rest)

  -- the n rules of a book
  abbrev pub read_rules : ℕ → ℕ → Reader (List Rule)
  read_rules v n = more_rules v n 0

  -- version, rule count, the rules; nothing follows
  unfoldable pub book : Reader Book
  book = do
    v ← field file first_version last_version
    n ← field file 1 rules
    rs ← read_rules v n
    end file
    answer (record { version = v; rules = rs })

  -- a whole file
  abbrev pub read_book : Answer Book
  read_book = book 0
