-- What the program rules tells people on standard error when it refuses words.rules: the promise of advise cites advice_of.
-- Lines and columns count from 1; the last line names every byte that could stand where the wrong one does.
use Rattle.std.specs.Prelude.{ℕ, zero, suc, ◌+◌, ◌*◌, ◌-◌, Bool, true, false, not, cond, ◌&&◌, List, [], ◌∷◌, ◌++◌, eqb, ltb, length, take, drop, replicate}
use Rattle.number.specs.declared.Refusal.{Refusal}
use Rattle.number.specs.declared.Refusal.TheVariants.{Short, Number, Range, Stack, Tail, Long, Pool, States, Runs, Loaded, Room, Pairs, Input, Typed, Padded}
use Rattle.number.specs.Limits.{rules, kinds, nodes, bytes, rules_file}
use Rattle.number.specs.Refused.{Outcome, number, place}
use Rattle.number.specs.Refused.Outcome.{gives, refuses}
use Rattle.meaning.specs.Re.{Text}
use Rattle.lines.specs.Digits.{decimal}
use Rattle.typed.specs.Spells.{bare}
use Rattle.typed.specs.Calls.{book_bytes}
use Rattle.number.specs.Quoted.{quoted}

abbrev pub newline : ℕ
newline = 10

abbrev pub space : ℕ
space = 32

-- ---- where a place is: its line, and where that line starts

unfoldable pub newlines : Text → ℕ
newlines [] = 0
newlines (c ∷ text) = cond (eqb c newline) 1 0 + newlines text

abbrev pub line_at : Text → ℕ → ℕ
line_at text p = newlines (take p text) + 1

-- behind the last newline of the bytes from place q on, or else where the line started that q is in
unfoldable pub last_start : ℕ → ℕ → Text → ℕ
last_start start q [] = start
last_start start q (c ∷ text) = last_start (cond (eqb c newline) (q + 1) start) (q + 1) text

abbrev pub start_at : Text → ℕ → ℕ
start_at text p = last_start 0 0 (take p text)

abbrev pub column_at : Text → ℕ → ℕ
column_at text p = p - start_at text p + 1

-- ---- the line as it is shown

-- a byte that cannot be printed is shown as `?`
abbrev pub printed : ℕ → ℕ
printed c = cond (ltb c 32) 63 (cond (ltb 126 c) 63 c)

-- up to the line's newline or the text's end
unfoldable pub shown : Text → List ℕ
shown [] = []
shown (c ∷ text) = elim (eqb c newline) [ true ↦ [] | false ↦ printed c ∷ shown text ]

abbrev pub shown_line : Text → List ℕ
shown_line text = shown text ++ (newline ∷ [])

-- `^` below a byte, behind as many spaces as bytes stand before it on its line
unfoldable pub mark_line : ℕ → List ℕ
mark_line before = replicate before space ++ (94 ∷ newline ∷ [])

-- ---- the bytes that could stand at a place

-- an answer that says that the byte at p is wrong: number and place are those of Typed there
abbrev pub wrong_at : ℕ → Outcome (List ℕ) → Bool
wrong_at p (gives book) = false
wrong_at p (refuses r) = eqb (number r) (number (Typed p)) && eqb (place r) p

-- c is not wrong behind these bytes; by the theorem the_bytes of Main: some rightly typed text begins with them and then c
unfoldable pub could_stand : Text → ℕ → Bool
could_stand before c = not (wrong_at (length before) (book_bytes (before ++ (c ∷ []))))

-- those of the n bytes from c on for which a test holds, rising
unfoldable pub kept : (ℕ → Bool) → ℕ → ℕ → List ℕ
kept test zero c = []
kept test (suc n) c = elim (test c) [ true ↦ c ∷ kept test n (c + 1) | false ↦ kept test n (c + 1) ]

-- neighbouring bytes: from the first to the last of them
pub record Run : Type 0 where
  pub first : ℕ
  pub last : ℕ

-- two letters or two digits, one after the other: only such bytes are told as from one to another
unfoldable pub neighbours : ℕ → Bool
neighbours c = bare c && bare (c + 1)

-- a byte in front of runs: it makes the first of them longer, or is a run of its own
unfoldable pub joined : ℕ → List Run → List Run
joined c [] = record { first = c; last = c } ∷ []
joined c (r ∷ rs) = cond (neighbours c && eqb r.first (c + 1)) (record { first = c; last = r.last } ∷ rs) (record { first = c; last = c } ∷ r ∷ rs)

unfoldable pub runs : List ℕ → List Run
runs [] = []
runs (c ∷ cs) = joined c (runs cs)

-- a byte as people read it
unfoldable pub byte_name : ℕ → List ℕ
byte_name c = cond (eqb c space) (quoted "space") (cond (eqb c newline) (quoted "newline") (printed c ∷ []))

-- `lo-hi`, or one byte alone
unfoldable pub run_name : Run → List ℕ
run_name r = byte_name r.first ++ cond (eqb r.first r.last) [] (45 ∷ byte_name r.last)

-- a space before each run
unfoldable pub run_names : List Run → List ℕ
run_names [] = []
run_names (r ∷ rs) = (space ∷ run_name r) ++ run_names rs

-- all bytes for which a test holds
unfoldable pub tested_line : (ℕ → Bool) → List ℕ
tested_line test = quoted "here could stand:" ++ (run_names (runs (kept test bytes 0)) ++ (newline ∷ []))

-- ---- the whole text

-- words, and behind them a number
unfoldable pub phrase : List ℕ → ℕ → List ℕ
phrase words n = words ++ decimal n

unfoldable pub place_words : ℕ → ℕ → List ℕ
place_words line column = phrase (quoted "words.rules, line ") line ++ phrase (quoted ", column ") column

-- at the text's end, or inside it
unfoldable pub fault_words : Bool → List ℕ
fault_words true = quoted ": the text ends here, but the rule does not.\n"
fault_words false = quoted ": no rule goes on with this byte.\n"

unfoldable pub typed_advice : Text → ℕ → List ℕ
typed_advice text p =
    place_words (line_at text p) (column_at text p) ++
    (fault_words (eqb p (length text)) ++
    (shown_line (drop (start_at text p) text) ++
    (mark_line (p - start_at text p) ++
    tested_line (could_stand (take p text)))))

-- the limits that a line may have passed, with their numbers; the refusal does not tell which
abbrev pub over_rules : List ℕ
over_rules = phrase (quoted ": with this line there are more than ") rules

abbrev pub over_kinds : List ℕ
over_kinds = phrase (quoted " rules, or its kind is above ") kinds

abbrev pub over_nodes : List ℕ
over_nodes = phrase (quoted ", or the nodes are more than ") nodes

abbrev pub in_all : List ℕ
in_all = quoted " in all.\n"

unfoldable pub too_much : List ℕ
too_much = over_rules ++ (over_kinds ++ (over_nodes ++ in_all))

unfoldable pub range_advice : Text → ℕ → List ℕ
range_advice text p = place_words (line_at text p) (column_at text p) ++ (too_much ++ shown_line (drop (start_at text p) text))

unfoldable pub no_rule : List ℕ
no_rule = quoted "words.rules has no rule.\n"

abbrev pub over_file : List ℕ
over_file = phrase (quoted "words.rules cannot be read, or has more than ") rules_file

abbrev pub in_bytes : List ℕ
in_bytes = quoted " bytes.\n"

unfoldable pub unread : List ℕ
unread = over_file ++ in_bytes

unfoldable pub unsaved : List ℕ
unsaved = quoted "words.book cannot be written.\n"

-- what is told of each refusal of a text that was read; those that typing never answers, and places outside the text, are told nothing
unfoldable pub advice_on : Text → Refusal → List ℕ
advice_on text (Typed p) = cond (ltb (length text) p) [] (typed_advice text p)
advice_on text (Range p) = cond (eqb (length text) 0) no_rule (cond (ltb (length text) p) [] (range_advice text p))
advice_on text Input = []
advice_on text (Short p) = []
advice_on text (Number p) = []
advice_on text (Padded p) = []
advice_on text (Stack p) = []
advice_on text (Tail p) = []
advice_on text (Long p) = []
advice_on text (Pool p) = []
advice_on text (States p) = []
advice_on text (Runs p) = []
advice_on text Loaded = []
advice_on text Room = []
advice_on text (Pairs p) = []

-- more bytes than the file may have stand for a file that is missing or too long
unfoldable pub advice_of : Text → Refusal → List ℕ
advice_of text r = cond (ltb rules_file (length text)) unread (advice_on text r)

-- the room that any advice is given: the line and the mark below it, sixteen bytes for each byte that could stand, and the sentences
abbrev pub advice_room : ℕ
advice_room = 2 * rules_file + 16 * bytes + 256
