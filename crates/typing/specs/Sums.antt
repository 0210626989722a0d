-- The rules so far, as the code holds them: counts, and their bytes in a book of its own; or that a line has brought them out of range.
-- Also what adding a line, reading all lines and finishing promise in these terms.
use Rattle.std.specs.Prelude.{ℕ, suc, ◌+◌, ◌*◌, ◌≤◌, ◌≡◌, List, [], ◌∷◌, ◌++◌, map, length, take, Result, Ok, Err}
use Rattle.number.specs.Limits.{rules, kinds, nodes, typed_area}
use Rattle.book.specs.Book.{total, write_rules}
use Rattle.number.specs.declared.Refusal.{Refusal}
use Rattle.typed.specs.Exp.{Exp, postfix}
use Rattle.typed.specs.Lines.{Line}
use Rattle.typed.specs.Lines.Line.{rule}
use Rattle.typed.specs.Scan.Reading.{typed, wrong}
use Rattle.typed.specs.LineReader.{read_lines}
use Rattle.typed.specs.PostfixLaws.{Fits}
use Rattle.typed.specs.Calls.{rule_of}
use Rattle.typed.specs.Bought.{InLimits}
use Rattle.laid.specs.Laid.{Capped, Lays}
use Rattle.expression.specs.declared.Wrong.{Wrong}
use Rattle.typing.specs.declared.Sum.{Sum}
use Rattle.typing.specs.declared.Fault.{Fault}
use Rattle.typing.specs.Promises.{Given}

-- after so many lines, which are in range, comes one that brings them out of it
pub record FaultAfter (i : ℕ) (ls : List Line) : Type 0 where
  pub before : List Line
  pub line : Line
  pub later : List Line
  pub parts : ls ≡ before ++ (line ∷ later)
  pub fits : InLimits before
  pub out : InLimits (before ++ (line ∷ [])) → ⊥
  pub count : i ≡ length before

-- the rules so far, or the line that brings them out of range
abbrev pub Rules : Type 0
Rules = Result Sum Fault

-- the rules so far are those of these lines, or the first line out of range comes after so many
pub data Summed (ls : List Line) : Rules → List ℕ → Type 0 where
  in_range : {s : Sum} {book : List ℕ} → InLimits ls → s.rules ≡ length ls → s.nodes ≡ total (map rule_of ls)
      → take s.end book ≡ write_rules (map rule_of ls) → Summed ls (Ok s) book
  out_of_range : {f : Fault} {book : List ℕ} → FaultAfter f.line ls → Summed ls (Err f) book

-- counts within the limits
pub record Small (s : Sum) : Type 0 where
  pub few : s.rules ≤ rules
  pub small : s.nodes ≤ nodes
  pub short : s.end ≤ s.rules * 6 + s.nodes * 7

abbrev pub SmallSoFar : Rules → Type 0
SmallSoFar (Ok s) = Small s
SmallSoFar (Err f) = Unit

-- and so bytes within the book
pub record Roomy (r : Rules) (book : List ℕ) : Type 0 where
  pub counts : SmallSoFar r
  pub book_is : length book ≡ typed_area

pub record AddsLine (s : Rules) (kind count : ℕ) (cells book : List ℕ) (s' : Rules) (book' : List ℕ) : Type 0 where
  pub roomy : Roomy s' book'
  pub sums : (ls : List Line) (k : ℕ) (e : Exp) → Summed ls s book → Capped kinds kind k → Lays cells count (postfix e) → Fits e
      → Summed (ls ++ (rule k e ∷ [])) s' book'

pub data RulesReads (text book : List ℕ) : Result Rules Wrong → Type 0 where
  all_read : {s : Rules} (ls : List Line) → read_lines text ≡ typed ls → Summed ls s book → Roomy s book → RulesReads text book (Ok s)
  wrong_read : {p : ℕ} → length book ≡ typed_area → read_lines text ≡ wrong p → RulesReads text book (Err (record { at = p }))

pub record Finishes (text : List ℕ) (s : Rules) (book out : List ℕ) (r : Result ℕ Refusal) (out' : List ℕ) : Type 0 where
  pub same : length out' ≡ length out
  pub gives : (ls : List Line) → read_lines text ≡ typed ls → Summed ls s book → Given text out r out'

-- newlines still to come after a byte
pub data LeftAfter (left c r : ℕ) : Type 0 where
  newline : c ≡ 10 → left ≡ suc r → LeftAfter left c r
  no_newline : (c ≡ 10 → ⊥) → r ≡ left → LeftAfter left c r
