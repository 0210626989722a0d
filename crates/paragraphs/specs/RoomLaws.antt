-- How long advice gets: it fits into advice_room for every text that a file of rules may be.
-- A line has at most as many bytes as the text, the mark as many spaces; a run takes sixteen bytes at most, and there is one for each byte at most.
use Rattle.std.specs.Prelude.{ℕ, zero, suc, ◌+◌, ◌*◌, ◌-◌, ◌^◌, ◌≤◌, ◌<◌, ◌≡◌, refl, Bool, true, false, cond, ◌&&◌, List, [], ◌∷◌, ◌++◌, eqb, length, take, drop}
use Rattle.std.proofs.Common.{arith, length-append, length-drop, length-take-le}
use Rattle.number.specs.Limits.{rules, kinds, nodes, bytes, rules_file}
use Rattle.number.specs.Branch.{by_cond}
use Rattle.meaning.specs.Re.{Text}
use Rattle.lines.specs.Digits.{decimal}
use Rattle.lines.specs.DigitLaws.{decimal_most}
use Rattle.number.specs.Quoted.{quoted}
use Rattle.advised.specs.Advice.{newline, space, newlines, line_at, start_at, column_at, printed, shown, shown_line, mark_line, could_stand}
use Rattle.advised.specs.Advice.{kept, Run, neighbours, joined, runs, byte_name, run_name, run_names, tested_line}
use Rattle.advised.specs.Advice.{phrase, place_words, fault_words, over_rules, over_kinds, over_nodes, in_all, too_much, over_file, in_bytes, typed_advice, range_advice, unread, advice_room}
use Rattle.phrases.specs.WriteLaws.{mark_length}

-- ---- lines

newlines_most : (text : Text) → newlines text ≤ length text
unfolding newlines
newlines_most [] = omega arith
newlines_most (c ∷ text) =
    by_cond (λ n. n + newlines text ≤ suc (length text)) (eqb c newline)
    (λ e. omega (arith, newlines_most text)) (λ e. omega (arith, newlines_most text))

line_most : (text : Text) (p : ℕ) → p ≤ length text → length text ≤ rules_file → line_at text p ≤ rules_file + 1
line_most text p h g = omega (arith, newlines_most (take p text), length-take-le p text h)

shown_most : (text : Text) → length (shown text) ≤ length text
unfolding shown
shown_most [] = omega arith
shown_most (c ∷ text) = by_test (eqb c newline) refl (shown_most text)
  where
    by_test : (b : Bool) → eqb c newline ≡ b → length (shown text) ≤ length text → length (shown (c ∷ text)) ≤ suc (length text)
    by_test true e ih = rw (e, shown) (omega arith)
    by_test false e ih = rw (e, shown) (omega arith)

shown_line_most : (text : Text) (k : ℕ) → length (shown_line (drop k text)) ≤ length text + 1
shown_line_most text k =
    omega (arith, length-append (shown (drop k text)) (newline ∷ []), shown_most (drop k text), length-drop k text)

-- ---- runs

abbrev Named : List ℕ → Type 0
Named w = length w ≤ 7

name_most : (c : ℕ) → length (byte_name c) ≤ 7
unfolding byte_name quoted
name_most c =
    by_cond Named (eqb c space) {x = quoted "space"} {y = cond (eqb c newline) (quoted "newline") (printed c ∷ [])} (λ e. omega arith)
    (λ e. by_cond Named (eqb c newline) {x = quoted "newline"} {y = printed c ∷ []} (λ f. omega arith) (λ f. omega arith))

tail_most : (lo hi : ℕ) → length (cond (eqb lo hi) [] (45 ∷ byte_name hi)) ≤ 8
tail_most lo hi = by_cond (λ w. length w ≤ 8) (eqb lo hi) {x = []} {y = 45 ∷ byte_name hi} (λ e. omega arith) (λ e. omega (arith, name_most hi))

run_most : (r : Run) → length (run_name r) ≤ 15
unfolding run_name
run_most r =
    omega (arith, length-append (byte_name r.first) (cond (eqb r.first r.last) [] (45 ∷ byte_name r.last)), name_most r.first, tail_most r.first r.last)

names_most : (rs : List Run) → length (run_names rs) ≤ 16 * length rs
unfolding run_names
names_most [] = omega arith
names_most (r ∷ rs) = omega (arith, length-append (space ∷ run_name r) (run_names rs), run_most r, names_most rs)

joined_most : (c : ℕ) (rs : List Run) → length (joined c rs) ≤ suc (length rs)
unfolding joined
joined_most c [] = omega arith
joined_most c (r ∷ rs) =
    by_cond (λ w. length w ≤ suc (suc (length rs))) (neighbours c && eqb r.first (c + 1))
    {x = record { first = c; last = r.last } ∷ rs} {y = record { first = c; last = c } ∷ r ∷ rs} (λ e. omega arith) (λ e. omega arith)

runs_most : (cs : List ℕ) → length (runs cs) ≤ length cs
unfolding runs
runs_most [] = omega arith
runs_most (c ∷ cs) = omega (arith, joined_most c (runs cs), runs_most cs)

kept_most : (test : ℕ → Bool) (n c : ℕ) → length (kept test n c) ≤ n
unfolding kept
kept_most test zero c = omega arith
kept_most test (suc n) c = by_test (test c) refl (kept_most test n (c + 1))
  where
    by_test : (b : Bool) → test c ≡ b → length (kept test n (c + 1)) ≤ n → length (kept test (suc n) c) ≤ suc n
    by_test true e ih = rw (e, kept) (omega arith)
    by_test false e ih = rw (e, kept) (omega arith)

tested_most : (test : ℕ → Bool) → length (tested_line test) ≤ 16 * bytes + 18
unfolding tested_line quoted
tested_most test =
    omega (
      arith,
      length-append (quoted "here could stand:") (run_names (runs (kept test bytes 0)) ++ (newline ∷ [])),
      length-append (run_names (runs (kept test bytes 0))) (newline ∷ []),
      names_most (runs (kept test bytes 0)),
      runs_most (kept test bytes 0),
      kept_most test bytes 0,
    )

-- ---- sentences

phrase_most : (words : List ℕ) (n : ℕ) → n < 10 ^ 6 → length (phrase words n) ≤ length words + 6
unfolding phrase
phrase_most words n h = omega (arith, length-append words (decimal n), decimal_most 5 n h)

place_most : (line column : ℕ) → line < 10 ^ 6 → column < 10 ^ 6 → length (place_words line column) ≤ 39
unfolding place_words quoted
place_most line column h g =
    let l : List ℕ = phrase (quoted "words.rules, line ") line in
    let c : List ℕ = phrase (quoted ", column ") column in
    omega (arith, length-append l c, phrase_most (quoted "words.rules, line ") line h, phrase_most (quoted ", column ") column g)

fault_most : (b : Bool) → length (fault_words b) ≤ 45
unfolding fault_words quoted
fault_most true = omega arith
fault_most false = omega arith

too_much_most : length too_much ≤ 130
unfolding too_much quoted
too_much_most =
    let r : length over_rules ≤ 43 = phrase_most _ rules (omega arith) in
    let k : length over_kinds ≤ 35 = phrase_most _ kinds (omega arith) in
    let n : length over_nodes ≤ 35 = phrase_most _ nodes (omega arith) in
    omega (
      arith,
      length-append over_rules (over_kinds ++ (over_nodes ++ in_all)),
      length-append over_kinds (over_nodes ++ in_all),
      length-append over_nodes in_all,
    )

pub unread_most : length unread ≤ 60
unfolding unread quoted
unread_most =
    let f : length over_file ≤ 51 = phrase_most _ rules_file (omega arith) in
    omega (arith, length-append over_file in_bytes)

-- ---- the whole

pub typed_room : (text : Text) (p : ℕ) → p ≤ length text → length text ≤ rules_file → length (typed_advice text p) ≤ advice_room
unfolding typed_advice
typed_room text p h g =
    let could : List ℕ = tested_line (could_stand (take p text)) in
    let mark : List ℕ = mark_line (p - start_at text p) in
    let line : List ℕ = shown_line (drop (start_at text p) text) in
    let fault : List ℕ = fault_words (eqb p (length text)) in
    omega (
      arith,
      length-append (place_words (line_at text p) (column_at text p)) (fault ++ (line ++ (mark ++ could))),
      length-append fault (line ++ (mark ++ could)),
      length-append line (mark ++ could),
      length-append mark could,
      place_most (line_at text p) (column_at text p) (omega (arith, line_most text p h g)) (omega arith),
      fault_most (eqb p (length text)),
      shown_line_most text (start_at text p),
      mark_length (p - start_at text p),
      tested_most (could_stand (take p text)),
    )

pub range_room : (text : Text) (p : ℕ) → p ≤ length text → length text ≤ rules_file → length (range_advice text p) ≤ advice_room
unfolding range_advice
range_room text p h g =
    omega (
      arith,
      length-append (place_words (line_at text p) (column_at text p)) (too_much ++ shown_line (drop (start_at text p) text)),
      length-append too_much (shown_line (drop (start_at text p) text)),
      place_most (line_at text p) (column_at text p) (omega (arith, line_most text p h g)) (omega arith),
      too_much_most,
      shown_line_most text (start_at text p),
    )
