-- The theorems of rules typed as text that are bought, together; each is proved in the file that its proof names.
-- To believe them, read only definitions: Sets, Exp, Spells, Lines, Calls, Bought, Classes, Worked, those of number, meaning and book that they name, and table's Output.
use Rattle.std.specs.Prelude.{ℕ, ◌+◌, ◌-◌, ◌≤◌, ◌<◌, ◌≡◌, refl, true, false, not, ◌&&◌, ◌||◌, List, [], ◌∷◌, ◌++◌, map, ◌↔◌, ltb, eqb, length, get_or, drop}
use Rattle.std.proofs.Common.{arith, sym, ap, ◌∙◌, length-append, length-drop, get_or-append-add, get_or-drop, ltb-true, ltb-false}
use Rattle.std.proofs.Math.Option.Option.{some}
use Rattle.number.specs.declared.Refusal.{Refusal}
use Rattle.number.specs.declared.Refusal.TheVariants.{Range, Typed}
use Rattle.number.specs.Branch.{by_cond}
use Rattle.number.specs.Limits.{deep, typed_area}
use Rattle.number.specs.Refused.{Outcome}
use Rattle.number.specs.Refused.Outcome.{gives, refuses}
use Rattle.meaning.specs.Re.{Text}
use Rattle.meaning.specs.Lang.{Same}
use Rattle.book.specs.Book.{write_book}
use Rattle.table.specs.Calls.{Output}
use Rattle.typed.specs.Sets.{Set, sets, named, spans}
use Rattle.typed.specs.Sets.Set.{alnum, graph, punct, xdigit}
use Rattle.typed.specs.Exp.{Exp, Means}
use Rattle.typed.specs.Exp.Exp.{set}
use Rattle.typed.specs.Spells.{between, bare, hex, Spells}
use Rattle.typed.specs.Spells.Part.{choice}
use Rattle.typed.specs.Lines.{Line, SpellsAll, WrongAt}
use Rattle.typed.specs.Reader.{reads}
use Rattle.typed.specs.Scan.Reading.{typed, wrong}
use Rattle.typed.specs.LineReader.{read_lines}
use Rattle.typed.specs.Calls.{book_of, book_bytes, put_book, type_of}
use Rattle.typed.specs.Bought.{InLimits, TypedBook, OutOfRange, OneOf, Call}
use Rattle.typed.specs.Bought.OneOf.{a_book, out_of_range, wrongly_typed}
use Rattle.typed.specs.Bought.Call.{no_room, refused, given}
use Rattle.number.specs.Quoted.{quoted}
use Rattle.typed.specs.Classes.{holds, ByteOf, said, Rising, Fewest, In, spans_of, title}
use Rattle.typed.specs.Worked.{EachHolds, cases}
use Rattle.typed.proofs.SpelledIsRead.{spelled_reads}
use Rattle.typed.proofs.ReadIsSpelled.{reads_spelled}
use Rattle.typed.proofs.LineLaws as LineLaws
use Rattle.typed.proofs.WrongLaws.{wrong_byte}
use Rattle.typed.specs.AnswerLaws.{Way, answer_way, when_wrong}
use Rattle.typed.specs.AnswerLaws.Way.{mistyped, no_rule_lem, too_much_lem, the_rules}
use Rattle.typed.proofs.RangeLaws.{range_exact}
use Rattle.typed.proofs.BookLaws.{book_typed, typed_book, book_long}
use Rattle.typed.specs.ClassLaws.{classes_said, far_holds, punct_rest, among_held, rises, spans_fewest, all_there, few_spans, names_read, bare_held, hex_held}
use Rattle.typed.proofs.WorkedLaws.{worked_cases}

-- an expression is read exactly where it is spelled
pub the_expressions : (w : Text) (e : Exp) → (reads w ≡ some e) ↔ Spells choice deep w e
the_expressions w e = (reads_spelled w e, spelled_reads w e)

-- the reader answers these lines exactly where the text spells them
pub the_typing : (text : Text) (ls : List Line) → (read_lines text ≡ typed ls) ↔ SpellsAll text ls
the_typing = LineLaws.the_typing

-- and so a text spells one list of lines at most: the grammar can be read in one way only
pub one_reading : (text : Text) (ls ms : List Line) → SpellsAll text ls → SpellsAll text ms → ls ≡ ms
one_reading text ls ms a b = let e : typed ls ≡ typed ms = sym ((the_typing text ls).1 a) ∙ (the_typing text ms).1 b in cc

-- refusal 14 is told exactly where the text is wrong, and of the first byte that no rightly typed text could have there, or of the end
pub the_wrong_byte : (text : Text) (p : ℕ) → (book_bytes text ≡ refuses (Typed p)) ↔ WrongAt text p
the_wrong_byte text p = (λ e. by_way (answer_way text) e, λ h. when_wrong text p ((wrong_byte text p).1 h))
  where
    by_way : {x : Outcome (List ℕ)} → Way text x → x ≡ refuses (Typed p) → WrongAt text p
    by_way (mistyped q r) d = let z : q ≡ p = cc in (wrong_byte text p).0 (r ∙ ap wrong z)
    by_way (no_rule_lem r) d = absurd (let z : ◌≡◌ {A = ℕ} 0 1 = cc in omega arith)
    by_way (too_much_lem l ls i r f) d = absurd (let z : ◌≡◌ {A = ℕ} 0 1 = cc in omega arith)
    by_way (the_rules l ls r f) d = absurd (let z : ◌≡◌ {A = ℕ} 0 1 = cc in omega arith)

-- refusal 3 is told exactly where the text is rightly typed and out of range, and of the start of the first line that brings it there
pub the_range : (text : Text) (p : ℕ) → (book_bytes text ≡ refuses (Range p)) ↔ OutOfRange text p
the_range = range_exact

-- bytes that are given are the book of the text's lines: the book reader accepts it, and its rules match exactly what the lines mean
pub the_book : (text : Text) (bytes : List ℕ) → book_bytes text ≡ gives bytes → TypedBook text bytes
the_book = book_typed

-- and every text of lines that are in range is given its book
pub the_books : (text : Text) (ls : List Line) → SpellsAll text ls → 1 ≤ length ls → InLimits ls → book_bytes text ≡ gives (write_book (book_of ls))
the_books = typed_book

-- there is no other answer than these three
pub the_answers : (text : Text) → OneOf (book_bytes text)
the_answers text = by_way (answer_way text)
  where
    by_way : {x : Outcome (List ℕ)} → Way text x → OneOf x
    by_way (mistyped p r) = wrongly_typed p
    by_way (no_rule_lem r) = out_of_range 0
    by_way (too_much_lem l ls i r f) = out_of_range _
    by_way (the_rules l ls r f) = a_book _

-- a book that is given has at most 2,690 bytes, so the area that a call asks for holds it
pub the_length : (text : Text) (bytes : List ℕ) → book_bytes text ≡ gives bytes → (length bytes ≤ 2690) × (length bytes < typed_area)
the_length text bytes e =
    let b = the_book text bytes e in
    let l : length bytes ≤ 2690 = omega (arith, ap length b.written, book_long (book_of b.lines) b.valid) in
    (l, omega arith)

-- a whole call: room first, then what the text is answered; only a book is written, and only to the front
pub the_call : (text : Text) (out : List ℕ) → Call text out (type_of text out)
the_call text out =
    by_cond (Call text out) (ltb (length out) typed_area) (λ h. no_room (ltb-true (length out) typed_area h))
    (λ h. by_answer (book_bytes text) refl (ltb-false (length out) typed_area h))
  where
    by_answer : (x : Outcome (List ℕ)) → book_bytes text ≡ x → typed_area ≤ length out → Call text out (put_book out x)
    by_answer (refuses r) e h = refused r h e
    by_answer (gives bytes) e h = given bytes h e (omega (arith, (the_length text bytes e).1))

-- the output keeps its length
pub the_output : (text : Text) (out : List ℕ) → length (type_of text out).out ≡ length out
the_output text out = by_call (the_call text out)
  where
    by_call : {x : Output} → Call text out x → length x.out ≡ length out
    by_call (no_room h) = refl
    by_call (refused r h e) = refl
    by_call (given bytes h e l) = omega (arith, length-append bytes (drop (length bytes) out), length-drop (length bytes) out)

-- past the book every cell is as it was lent; on a refusal all of them are
pub the_rest : (text : Text) (out : List ℕ)
    → ((n : ℕ) → (type_of text out).answer ≡ gives n → (i d : ℕ) → n ≤ i → get_or (type_of text out).out i d ≡ get_or out i d)
    × ((r : Refusal) → (type_of text out).answer ≡ refuses r → (type_of text out).out ≡ out)
the_rest text out = (λ n. by_given n (the_call text out), λ r. by_refused r (the_call text out))
  where
    past : (bytes : List ℕ) (i d : ℕ) → length bytes ≤ i → get_or (bytes ++ drop (length bytes) out) i d ≡ get_or out i d
    past bytes i d h =
        let e : i ≡ length bytes + (i - length bytes) = omega arith in
        ap (λ (k : ℕ). get_or (bytes ++ drop (length bytes) out) k d) e
        ∙ get_or-append-add bytes (drop (length bytes) out) (i - length bytes) d
        ∙ get_or-drop (length bytes) out (i - length bytes) d
        ∙ ap (λ (k : ℕ). get_or out k d) (sym e)

    by_given : (n : ℕ) {x : Output} → Call text out x → x.answer ≡ gives n → (i d : ℕ) → n ≤ i → get_or x.out i d ≡ get_or out i d
    by_given n (no_room h) a i d l = refl
    by_given n (refused r h e) a i d l = refl
    by_given n (given bytes h e l) a i d m = let z : length bytes ≡ n = cc in past bytes i d (omega (arith, z, m))

    by_refused : (r : Refusal) {x : Output} → Call text out x → x.answer ≡ refuses r → x.out ≡ out
    by_refused r (no_room h) a = refl
    by_refused r (refused s h e) a = refl
    by_refused r (given bytes h e l) a = absurd (let z : ◌≡◌ {A = ℕ} 0 1 = cc in omega arith)

-- ---- bytes and numbers that grammar and reader share

-- a byte stands for itself exactly where it is a letter, a digit or a space
pub the_bare : (c : ℕ) → bare c ≡ (holds alnum c || eqb c 32)
the_bare = bare_held

-- a byte has a value as a hex digit exactly where it is one
pub the_hex : (c : ℕ) → ((x : ℕ) × (hex c ≡ some x)) ↔ (holds xdigit c ≡ true)
the_hex = hex_held

-- and these are the values
pub the_hex_values : map hex (quoted "0123456789ABCDEFabcdef")
    ≡ map some (0 ∷ 1 ∷ 2 ∷ 3 ∷ 4 ∷ 5 ∷ 6 ∷ 7 ∷ 8 ∷ 9 ∷ 10 ∷ 11 ∷ 12 ∷ 13 ∷ 14 ∷ 15 ∷ 10 ∷ 11 ∷ 12 ∷ 13 ∷ 14 ∷ 15 ∷ [])
unfolding hex between quoted
the_hex_values = refl

-- ---- the sets

-- a set holds the bytes that POSIX gives its class, and none above 127
pub the_classes : (s : Set) (c : ℕ) → (holds s c ≡ said s c) × (127 < c → holds s c ≡ false)
the_classes s c = (classes_said s c, far_holds s c)

-- and punctuation is every graphic character that is no letter and no digit
pub the_punctuation : (c : ℕ) → holds punct c ≡ holds graph c && not (holds alnum c)
the_punctuation = punct_rest

-- a set that is typed matches the texts of one byte that it holds, and no others
pub the_sets_mean : (s : Set) → Same (Means (set s)) (ByteOf (spans s))
the_sets_mean s = among_held (spans s)

-- its ranges rise, each apart from the next, and no fewer hold the same bytes
pub the_fewest : (s : Set) → Rising 0 (spans s) × Fewest (spans s)
the_fewest s = (rises s, spans_fewest s)

-- there are twelve of them, every one in the list, with twenty-three ranges, one to four each
pub the_twelve : (length sets ≡ 12) × ((s : Set) → In s sets) × (spans_of sets ≡ 23) × ((s : Set) → (1 ≤ length (spans s)) × (length (spans s) ≤ 4))
unfolding spans_of spans
the_twelve = (refl, all_there, refl, few_spans)

-- and these are their names
pub the_names : (s : Set) → named s ≡ quoted (title s) ++ (62 ∷ [])
the_names = names_read

-- ---- texts worked by hand

-- what each is given, or why and where it is refused
pub the_worked_texts : EachHolds cases
the_worked_texts = worked_cases
