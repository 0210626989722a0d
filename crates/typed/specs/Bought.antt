-- What the theorems of proofs/Main.antt say of a text: the book that it is, the first line that is out of range, which answers there are, and a call.
-- Only definitions. The limits are those of number; what a rule matches is the book's own `expression` of it.
use Rattle.std.specs.Prelude.{ℕ, ◌≤◌, ◌<◌, ◌≡◌, List, [], ◌∷◌, ◌++◌, map, length, drop}
use Rattle.number.specs.declared.Refusal.{Refusal}
use Rattle.number.specs.declared.Refusal.TheVariants.{Range, Room, Typed}
use Rattle.number.specs.Limits.{rules, kinds, nodes, typed_area}
use Rattle.number.specs.Refused.{Outcome}
use Rattle.number.specs.Refused.Answer.{got}
use Rattle.number.specs.Refused.Outcome.{gives, refuses}
use Rattle.meaning.specs.Re.{Text}
use Rattle.meaning.specs.Lang.{Same}
use Rattle.meaning.specs.Means.{Matches}
use Rattle.book.specs.Book.{Rule, total, write_book}
use Rattle.book.specs.Reads.{read_book}
use Rattle.book.specs.Valid.{ValidBook}
use Rattle.book.specs.Expression.{run_nodes, expression}
use Rattle.table.specs.Calls.{Output}
use Rattle.typed.specs.Exp.{Exp, Means, postfix}
use Rattle.typed.specs.Lines.{Line, SpellsLine, SpellsAll}
use Rattle.typed.specs.Lines.Line.{rule}
use Rattle.typed.specs.Calls.{rule_of, book_of, book_bytes}

-- ---- a book that was typed

-- a rule stands for a line: it has the line's kind and nodes, the nodes leave one term, and that matches exactly what the typed form means
pub record Stands (k : ℕ) (e : Exp) (r : Rule) : Type 0 where
  pub kind : r.kind ≡ k
  pub nodes : r.nodes ≡ postfix e
  pub one_term : run_nodes r.nodes [] ≡ expression r ∷ []
  pub means : Same (Means e) (Matches (expression r))

-- as many rules as lines, each for its line
pub data EachStands : List Line → List Rule → Type 0 where
  no_rule_lem : EachStands [] []
  one_rule : {k : ℕ} {e : Exp} {r : Rule} {ls : List Line} {rs : List Rule} → Stands k e r → EachStands ls rs
      → EachStands (rule k e ∷ ls) (r ∷ rs)

abbrev pub KindsFit : List Line → Type 0
KindsFit [] = Unit
KindsFit (rule k e ∷ ls) = (k ≤ kinds) × KindsFit ls

-- rule count, kinds and node total are in range
pub record InLimits (ls : List Line) : Type 0 where
  pub few : length ls ≤ rules
  pub kinds_fit : KindsFit ls
  pub small : total (map rule_of ls) ≤ nodes

-- these bytes are the book of the text's lines: it is valid, the book reader reads it to its end, and each rule stands for its line
pub record TypedBook (text : Text) (bytes : List ℕ) : Type 0 where
  pub lines : List Line
  pub spells : SpellsAll text lines
  pub some : 1 ≤ length lines
  pub limits : InLimits lines
  pub written : write_book (book_of lines) ≡ bytes
  pub valid : ValidBook (book_of lines)
  pub reads : read_book bytes ≡ got (book_of lines) (length bytes)
  pub stands : EachStands lines (book_of lines).rules

-- ---- the first line that is out of range

-- the lines before it are in range, with it they are not, and it starts at p
pub record FirstOut (text : Text) (p : ℕ) : Type 0 where
  pub front : Text
  pub own : Text
  pub rest : Text
  pub parts : text ≡ front ++ (own ++ rest)
  pub before : List Line
  pub line : Line
  pub after : List Line
  pub whole : SpellsAll text (before ++ (line ∷ after))
  pub spelled : SpellsAll front before
  pub itself : SpellsLine own line
  pub fits : InLimits before
  pub out : InLimits (before ++ (line ∷ [])) → ⊥
  pub place : p ≡ length front

pub data OutOfRange (text : Text) : ℕ → Type 0 where
  no_line : text ≡ [] → OutOfRange text 0
  at_line : {p : ℕ} → FirstOut text p → OutOfRange text p

-- ---- the answers that there are for a text, room aside

pub data OneOf : Outcome (List ℕ) → Type 0 where
  a_book : (bytes : List ℕ) → OneOf (gives bytes)
  out_of_range : (p : ℕ) → OneOf (refuses (Range p))
  wrongly_typed : (p : ℕ) → OneOf (refuses (Typed p))

-- ---- a whole call and what it leaves in the output

-- too little room is refused first; on any refusal nothing is written; a book goes to the front and what stands past it stays
pub data Call (text : Text) (out : List ℕ) : Output → Type 0 where
  no_room : length out < typed_area → Call text out (record { answer = refuses Room; out = out })
  refused : (r : Refusal) → typed_area ≤ length out → book_bytes text ≡ refuses r → Call text out (record { answer = refuses r; out = out })
  given : (bytes : List ℕ) → typed_area ≤ length out → book_bytes text ≡ gives bytes → length bytes < length out
      → Call text out (record { answer = gives (length bytes); out = bytes ++ drop (length bytes) out })
