-- What typing a text of rules answers and leaves in the output, for every text and every area: the promise of type_rules cites this.
-- Room first; then a wrong byte, wherever it stands; then the first line that brings a number out of range.
use Rattle.std.specs.Prelude.{ℕ, zero, suc, ◌+◌, Bool, true, false, cond, ◌||◌, List, [], ◌∷◌, ◌++◌, map, ltb, eqb, length, drop}
use Rattle.std.proofs.Math.Option.{Option}
use Rattle.std.proofs.Math.Option.Option.{none, some}
use Rattle.number.specs.declared.Refusal.TheVariants.{Range, Room, Typed}
use Rattle.number.specs.Limits.{first_version, rules, kinds, nodes, typed_area}
use Rattle.number.specs.Refused.{Outcome}
use Rattle.number.specs.Refused.Outcome.{gives, refuses}
use Rattle.meaning.specs.Re.{Text}
use Rattle.book.specs.Book.{Rule, Book, write_book}
use Rattle.table.specs.Calls.{Output}
use Rattle.typed.specs.Exp.{postfix}
use Rattle.typed.specs.Lines.{Line}
use Rattle.typed.specs.Lines.Line.{rule}
use Rattle.typed.specs.Scan.{Reading}
use Rattle.typed.specs.Scan.Reading.{typed, wrong}
use Rattle.typed.specs.LineReader.{read_lines}

abbrev pub rule_of : Line → Rule
rule_of (rule k e) = record { kind = k; nodes = postfix e }

unfoldable pub book_of : List Line → Book
book_of ls = record { version = first_version; rules = map rule_of ls }

-- after so many rules and nodes, a line of this kind and so many nodes is one rule too many, or its kind or the total is too large
unfoldable pub out_of : ℕ → ℕ → ℕ → ℕ → Bool
out_of i t k m = ltb rules (i + 1) || (ltb kinds k || ltb nodes (t + m))

-- the first line, by its number, that is out of range
unfoldable pub fault : ℕ → ℕ → List Line → Option ℕ
fault i t [] = none
fault i t (rule k e ∷ ls) =
    elim (out_of i t k (length (postfix e))) [
      | true ↦ some i
      | false ↦ fault (i + 1) (t + length (postfix e)) ls
    ]

-- where line i starts: after i newlines
unfoldable pub start_of : ℕ → ℕ → Text → ℕ
start_of zero p t = p
start_of (suc i) p [] = p
start_of (suc i) p (c ∷ t) = elim (eqb c 10) [ true ↦ start_of i (p + 1) t | false ↦ start_of (suc i) (p + 1) t ]

-- lines in range are a book; no line at all is out of range at 0
unfoldable pub ranged : Text → List Line → Option ℕ → Outcome (List ℕ)
ranged text [] o = refuses (Range 0)
ranged text (l ∷ ls) none = gives (write_book (book_of (l ∷ ls)))
ranged text (l ∷ ls) (some i) = refuses (Range (start_of i 0 text))

unfoldable pub answered : Text → Reading (List Line) → Outcome (List ℕ)
answered text (wrong p) = refuses (Typed p)
answered text (typed ls) = ranged text ls (fault 0 0 ls)

-- the bytes of the book that a text is, or why it is none
unfoldable pub book_bytes : Text → Outcome (List ℕ)
book_bytes text = answered text (read_lines text)

-- bytes go to the front of the output and the rest of it stays; after a refusal all of it stays
abbrev pub put_book : List ℕ → Outcome (List ℕ) → Output
put_book out (gives bytes) = record { answer = gives (length bytes); out = bytes ++ drop (length bytes) out }
put_book out (refuses r) = record { answer = refuses r; out = out }

abbrev pub type_of : Text → List ℕ → Output
type_of text out = cond (ltb (length out) typed_area) (record { answer = refuses Room; out = out }) (put_book out (book_bytes text))
