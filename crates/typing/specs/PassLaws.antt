-- Laws of passing over bytes, one law a return of the readers of a colon, a kind and a line, and what the whole text then reads as.
-- The reader of an expression is told by its own states; they are lifted into those of the whole text.
use Prim.Native.Nat.{ℕ, zero, suc, ◌+◌, ◌*◌, ◌-◌, ◌<◌, ◌≤◌}
use native.Mathlib.Omega.{arith}
use Rattle.std.specs.Prelude.{◌≡◌, Bool, true, false, cond, eqb, length, get_or, take, min, None, Some, Ok, Err}
use Rattle.std.proofs.Math.Path.{refl, ap}
use Rattle.std.proofs.Common.{sym, ◌∙◌, take_all, ne_eqb, eqb-true}
use Rattle.std.proofs.Math.Decide.{dec_le}
use Rattle.std.proofs.lemmas.Option.{none-some}
use Rattle.std.proofs.Math.Option.{Option}
use Rattle.std.proofs.Math.Option.Option.{none, some}
use mathlib.Core.List.{List, [], ◌∷◌, ◌++◌}
use Rattle.std.proofs.Math.Seq.{slice, slice_empty}
use Rattle.number.specs.Limits.{kinds, deep}
use Rattle.number.specs.Branch.{by_cond}
use Rattle.meaning.specs.Re.{Text}
use Rattle.typed.specs.Exp.{Exp}
use Rattle.typed.specs.Spells.{between}
use Rattle.typed.specs.Lines.{Line, digit}
use Rattle.typed.specs.Lines.Line.{rule}
use Rattle.typed.specs.Reader.{Key, Frame, State, made, shut, by_key, step, ended, begin}
use Rattle.typed.specs.Reader.Frame.{held}
use Rattle.typed.specs.Reader.Mode.{plain}
use Rattle.typed.specs.Reader.State.{at}
use Rattle.typed.specs.Reader.Step.{wrong, go}
use Rattle.typed.specs.Scan.{Reading, at_end, scan, after, accepted}
use Rattle.typed.specs.Scan.Reading.{typed}
use Rattle.typed.specs.ScanLaws.{after_append, after_none, typed_scan}
use Rattle.typed.specs.LineReader.{Whole, begins, colon, on_digit, ends, stepped, turn, accept, at_first, read_lines}
use Rattle.typed.specs.LineReader.Place.{starting, zeroed, counted, reading}
use Rattle.typed.specs.LineReader.Whole.{whole}
use Rattle.typed.proofs.LineLaws.{steps_read, newline_read}
use Rattle.typed.specs.TestLaws.{between_true, none_some}
use Rattle.laid.specs.Laid.{Capped, Lays}
use Rattle.laid.specs.Laid.Capped.{fits, over}
use Rattle.laid.specs.Laid.Lays.{lies}
use Rattle.names.specs.Bytes.{byte_at, starting as starting_byte, marking, found}
use Rattle.names.specs.ByteLaws.{byte_inside, byte_there}
use Rattle.expression.specs.Reads.{At, wrong_at, Goes, Reads, Chosen, Ends, ChoiceRead}
use Rattle.expression.specs.Reads.Reads.{reads, stops}
use Rattle.expression.specs.Reads.Due.{outermost}
use Rattle.expression.specs.Reads.Chosen.{chosen}
use Rattle.expression.specs.GoesLaws.{slice_join, slice_one, late_key, no_both}
use Rattle.expression.specs.PartLaws.{at_of, wrong_of}
use Rattle.typing.specs.Passes.{KindAnswer, LineAnswer, Passes, Fails, KindReads, ColonReads, Longer, LineReads}
use Rattle.typing.specs.Passes.KindReads.{kind_read, kind_wrong}
use Rattle.typing.specs.Passes.LineReads.{line_read, line_wrong}

-- ---- passing

pub passes_none : (text : List ℕ) (p : ℕ) (x : Whole) → p ≤ length text → Passes text p p x x
unfolding after
passes_none text p x h = record { started = omega arith; inside = h; over = ap (after turn (some x)) (slice_empty p text) }

passes_one : (text : List ℕ) (p : ℕ) (x y : Whole) → p < length text → turn x (byte_at text p) ≡ some y → Passes text p (p + 1) x y
unfolding after
passes_one text p x y h e =
    record { started = omega arith; inside = omega arith; over = ap (after turn (some x)) (slice_one p text h) ∙ e }

pub passes_then : {text : List ℕ} {p q r : ℕ} {x y z : Whole} → Passes text p q x y → Passes text q r y z → Passes text p r x z
passes_then {text} {p} {q} {r} {x} {y} a b =
    record {
      started = omega (arith, a.started, b.started);
      inside = b.inside;
      over = ap (after turn (some x)) (sym (slice_join p q r text a.started b.started b.inside))
          ∙ after_append turn (some x) (slice p q text) (slice q r text) ∙ ap (λ (s : Option Whole). after turn s (slice q r text)) a.over ∙ b.over;
    }

fails_then : {text : List ℕ} {p q r : ℕ} {x y : Whole} → Passes text p q x y → Fails text q r y → Fails text p r x
fails_then a b = record { last = b.last; passes = passes_then a b.passes; stuck = b.stuck }

-- an expression's states, within a line
lifted : {text : List ℕ} {p q : ℕ} {s u : State} (ls : List Line) (k : ℕ) → Goes text p q s u → Passes text p q (whole ls (reading k s)) (whole ls (reading k u))
lifted {text} {p} {q} {s} {u} ls k g =
    record { started = g.started; inside = g.inside; over = steps_read ls k s u (slice p q text) g.over }

-- a byte that the expression does not take, and that does not end it
no_step : (ls : List Line) (k c : ℕ) (u : State) → step u c ≡ wrong → (c ≡ 10 → ended (go u) ≡ none) → turn (whole ls (reading k u)) c ≡ none
unfolding turn stepped ends
no_step ls k c u e h =
    rw e (by_cond (λ (x : Option Whole). x ≡ none) (eqb c 10) (λ z. rw (h (eqb-true c 10 z)) refl) (λ _. refl))

-- what may not stand after an expression of a line, unless it is the newline
not_taken : (c : ℕ) (f : Frame) (n : ℕ) → marking c ≡ false → starting_byte c ≡ false → (c ≡ 124 → ⊥) → step (at plain f [] n) c ≡ wrong
unfolding step by_key shut
not_taken c f n m s b =
    late_key c s (λ (k : Key). by_key k c f [] n ≡ wrong) (λ _. refl) (λ z. absurd (b z)) (λ z _. absurd (no_both (sym z ∙ m))) refl

newline_turn : (ls : List Line) (k : ℕ) (b r : Option Exp) (e : Exp) (n : ℕ)
    → turn (whole ls (reading k (at plain (held b r e) [] n))) 10 ≡ some (whole (ls ++ (rule k (made b r e) ∷ [])) starting)
unfolding after
newline_turn ls k b r e n = newline_read ls k b r e n

-- ---- digits

digit_low : (c x : ℕ) → digit c ≡ some x → x ≤ 9
unfolding digit
digit_low c x e = by_bounds (between 48 57 c) refl e
  where
    by_bounds : (b : Bool) → between 48 57 c ≡ b → cond b (some (c - 48)) none ≡ some x → x ≤ 9
    by_bounds true z h = let y : c - 48 ≡ x = cc in let m = between_true 48 57 c z in omega (arith, m.0, m.1)
    by_bounds false z h = absurd (none_some h)

digit_none : (c : ℕ) → None ≡ found (digit c) → digit c ≡ none
digit_none c e = by_value (digit c) e
  where
    by_value : (o : Option ℕ) → None ≡ found o → o ≡ none
    by_value none z = refl
    by_value (some y) z = absurd (none-some y z)

digit_some : (c x : ℕ) → Some x ≡ found (digit c) → digit c ≡ some x
digit_some c x e = by_value (digit c) e
  where
    by_value : (o : Option ℕ) → Some x ≡ found o → o ≡ some x
    by_value none z = absurd (none-some x (sym z))
    by_value (some y) z = let e : x ≡ y = cc in ap some (sym e)

-- ---- the colon

module _ (text : List ℕ) (p kind c : ℕ) (e : c ≡ byte_at text p) where
  pub colon_there : c ≡ 58 → p < length text
  colon_there h = byte_there text p (λ z. omega arith)

  pub colon_read : c ≡ 58 → ColonReads text p kind (Ok (kind, p + 1))
  unfolding colon
  colon_read h =
      let l = colon_there h in
      record {
        reads = λ from k cap less f.
            kind_read {q = p + 1} k cap (omega arith) (omega arith) λ ls.
            let a = f ls in
            passes_then a.1 (passes_one text p a.0 (whole ls (reading k begin)) l (a.2.colon_next l ∙ ap (colon ls k) (sym e ∙ h)));
      }

  pub colon_missing : p ≤ length text → (c ≡ 58 → ⊥) → ColonReads text p kind (Err (record { at = p }))
  unfolding colon
  colon_missing m h =
      record {
        reads = λ from k cap less f.
            kind_wrong {q = p} (omega arith) m λ ls.
            let a = f ls in
            record {
              last = a.0;
              passes = a.1;
              stuck = record {
                no_turn = λ l. a.2.colon_next l ∙ rw (ne_eqb (byte_at text p) 58 (λ z. h (e ∙ z))) refl;
                no_end = λ _. a.2.not_end;
              };
            };
      }

-- ---- a kind

-- the digits up to q
pub record KindSoFar (text : List ℕ) (p q kind : ℕ) : Type 0 where
  pub value : ℕ
  pub capped : Capped kinds kind value
  pub ahead : p < q
  pub inside : q ≤ length text
  pub passes : (ls : List Line) → Passes text p q (whole ls starting) (whole ls (counted value))

begins_step : (ls : List Line) (c : ℕ) (o : Option ℕ) → digit c ≡ o → turn (whole ls starting) c ≡ begins ls o
unfolding turn
begins_step ls c o e = ap (begins ls) e

module _ (text : List ℕ) (p c : ℕ) (l : p < length text) (b : c ≡ byte_at text p) where
  pub kind_none : None ≡ found (digit c) → KindReads text p (Err (record { at = p }))
  unfolding begins
  kind_none h =
      kind_wrong {q = p} (omega arith) (omega arith) λ ls.
      record {
        last = whole ls starting;
        passes = passes_none text p (whole ls starting) (omega arith);
        stuck = record {
          no_turn = λ _. begins_step ls (byte_at text p) none (sym (ap digit b) ∙ digit_none c h);
          no_end = λ z. absurd (omega arith);
        };
      }

  first_digit_lem : (x : ℕ) → Some x ≡ found (digit c) → digit (byte_at text p) ≡ some x
  first_digit_lem x e = sym (ap digit b) ∙ digit_some c x e

  pub kind_zero : (r : KindAnswer) (x : ℕ) → Some x ≡ found (digit c) → x ≡ 0 → ColonReads text (p + 1) 0 r → KindReads text p r
  unfolding begins turn accept
  kind_zero r x e h a =
      a.reads p 0 (fits (omega arith)) (omega arith) λ ls. (
        whole ls zeroed,
        passes_one text p (whole ls starting) (whole ls zeroed) l (begins_step ls (byte_at text p) (some 0) (first_digit_lem x e ∙ ap some h)),
        record { colon_next = λ _. refl; not_end = refl },
      )

  pub kind_first : (x : ℕ) → Some x ≡ found (digit c) → (x ≡ 0 → ⊥) → x < 10 → KindSoFar text p (p + 1) x
  unfolding begins
  kind_first x e z m =
      let h : x ≡ suc (x - 1) = omega arith in
      record {
        value = x;
        capped = fits {n = x} (omega arith);
        ahead = omega arith;
        inside = omega arith;
        passes = λ ls. passes_one text p (whole ls starting) (whole ls (counted x)) l
            (begins_step ls (byte_at text p) (some (suc (x - 1))) (first_digit_lem x e ∙ ap some h) ∙ ap (λ (v : ℕ). some (whole ls (counted v))) (sym h));
      }

capped_small : (kind k : ℕ) → Capped kinds kind k → kind ≤ kinds + 1
capped_small kind k (fits h) = omega arith
capped_small kind k (over h) = omega arith

pub so_far_small : {text : List ℕ} {p q kind : ℕ} → KindSoFar text p q kind → kind ≤ kinds + 1
so_far_small {kind = kind} a = capped_small kind a.value a.capped

on_digit_lem : (ls : List Line) (k c : ℕ) (o : Option ℕ) → digit c ≡ o → turn (whole ls (counted k)) c ≡ on_digit ls k c o
unfolding turn
on_digit_lem ls k c o e = ap (on_digit ls k c) e

module _ (text : List ℕ) (p q kind c : ℕ) (a : KindSoFar text p q kind) (b : c ≡ byte_at text q) where
  pub kind_more : (x kind' : ℕ) → q < length text → Some x ≡ found (digit c) → Longer kind x kind' → KindSoFar text p (q + 1) kind'
  unfolding on_digit
  kind_more x kind' l e d =
      record {
        value = a.value * 10 + x;
        capped = d.is a.value a.capped;
        ahead = omega (arith, a.ahead);
        inside = omega arith;
        passes = λ ls. passes_then (a.passes ls) (passes_one text q (whole ls (counted a.value)) (whole ls (counted (a.value * 10 + x))) l
            (on_digit_lem ls a.value (byte_at text q) (some x) (sym (ap digit b) ∙ digit_some c x e)));
      }

  pub kind_stops : (r : KindAnswer) → None ≡ found (digit c) → ColonReads text q kind r → KindReads text p r
  unfolding on_digit accept
  kind_stops r h d =
      d.reads p a.value a.capped a.ahead λ ls. (
        whole ls (counted a.value),
        a.passes ls,
        record {
          colon_next = λ _. on_digit_lem ls a.value (byte_at text q) none (sym (ap digit b) ∙ digit_none c h);
          not_end = refl;
        },
      )

pub kind_ends : (text : List ℕ) (p q kind : ℕ) → length text ≤ q → KindSoFar text p q kind → KindReads text p (Err (record { at = length text }))
unfolding accept
kind_ends text p q kind h a =
    let e : q ≡ length text = omega (arith, a.inside) in
    rw (← e) (kind_wrong {q = q} (omega (arith, a.ahead)) a.inside λ ls.
    record {
      last = whole ls (counted a.value);
      passes = a.passes ls;
      stuck = record { no_turn = λ l. absurd (omega arith); no_end = λ _. refl };
    })

longer_fits : (kind d k : ℕ) → kind * 10 + d ≤ kinds → Capped kinds kind k → Capped kinds (kind * 10 + d) (k * 10 + d)
longer_fits kind d k h (fits z) = fits h
longer_fits kind d k h (over z) = absurd (omega arith)

longer_over : (kind d k : ℕ) → kinds < kind * 10 + d → Capped kinds kind k → Capped kinds (kinds + 1) (k * 10 + d)
longer_over kind d k h (fits z) = over h
longer_over kind d k h (over z) = over (let y : kinds < k * 10 + d = omega arith in y)

pub longer_is : (kind d r : ℕ) → r ≡ min (kind * 10 + d) (kinds + 1) → Longer kind d r
longer_is kind d r e =
    elim (dec_le (kind * 10 + d) kinds) [
      | yes h ↦ let z : r ≡ kind * 10 + d = omega (arith, e) in rw z (record { small = omega arith; is = λ k c. longer_fits kind d k h c })
      | no h ↦
          let g : kinds < kind * 10 + d = omega arith in
          let z : r ≡ kinds + 1 = omega (arith, e) in
          rw z (record { small = omega arith; is = λ k c. longer_over kind d k g c })
    ]

pub line_same : {text : List ℕ} {p : ℕ} {cells : List ℕ} {r : LineAnswer} {cells' : List ℕ} → LineReads text p cells r cells' → length cells' ≡ length cells
line_same (line_read k e same small c l h m f) = same
line_same (line_wrong same h m f) = same

-- ---- a line

pub from_inside : {text : List ℕ} {p kind from : ℕ} → KindReads text p (Ok (kind, from)) → (p < from) × (from ≤ length text)
from_inside (kind_read k c h m f) = (h, m)

none_laid : (cells : List ℕ) → Lays cells 0 []
none_laid cells = lies {top = 0} (omega arith) refl refl

module _ (text : List ℕ) (p : ℕ) (cells : List ℕ) where
  pub line_kind_wrong : (q : ℕ) → KindReads text p (Err (record { at = q })) → LineReads text p cells (Err (record { at = q })) cells
  line_kind_wrong q (kind_wrong h k f) = line_wrong refl h k f

  module _ (kind from : ℕ) (cells' : List ℕ) where
    body_wrong : (q : ℕ) (ls : List Line) (k : ℕ) → Reads text cells from 0 begin (Chosen [] deep) Ends (wrong_at q) cells'
        → Fails text from q (whole ls (reading k begin))
    unfolding accept
    body_wrong q ls k (stops u g h) =
        record {
          last = whole ls (reading k u);
          passes = lifted ls k g;
          stuck = record { no_turn = λ l. no_step ls k (byte_at text q) u (h.no_step l) (h.no_end l); no_end = λ _. refl };
        }

    pub line_body_wrong : (q : ℕ) → KindReads text p (Ok (kind, from)) → ChoiceRead Ends text cells from deep 0 (wrong_at q) cells'
        → LineReads text p cells (Err (record { at = q })) cells'
    line_body_wrong q (kind_read k c h m f) a =
        let w = wrong_of a.within in
        line_wrong {q = q} a.same (omega (arith, w.0)) w.1 λ ls. fails_then (f ls) (body_wrong q ls k (a.reads [] outermost))

    module _ (q count : ℕ) where
      whole_line : KindReads text p (Ok (kind, from)) → length cells' ≡ length cells → q < length text → byte_at text q ≡ 10 → from < q
          → Reads text cells from 0 begin (Chosen [] deep) Ends (At q count) cells' → LineReads text p cells (Ok (record { kind = kind; count = count; next = q + 1 })) cells'
      whole_line (kind_read k c h m f) same l z ahead (reads e u g (chosen {b = b} {r = r} {l = i}) x d) =
          line_read {q = q + 1} k e same (d.small (omega arith)) c (d.adds [] (none_laid cells)) (omega arith) (omega arith) λ ls.
          passes_then (f ls) (passes_then (lifted ls k g)
          (passes_one text q (whole ls (reading k (at plain (held b r i) [] deep))) (whole (ls ++ (rule k (made b r i) ∷ [])) starting) l
          (ap (turn (whole ls (reading k (at plain (held b r i) [] deep)))) z ∙ newline_turn ls k b r i deep)))

      pub line_whole : KindReads text p (Ok (kind, from)) → ChoiceRead Ends text cells from deep 0 (At q count) cells' → q < length text
          → byte_at text q ≡ 10 → LineReads text p cells (Ok (record { kind = kind; count = count; next = q + 1 })) cells'
      line_whole y a l z = whole_line y a.same l z (at_of a.within).0 (a.reads [] outermost)

      -- no newline where the expression ends
      open_line : KindReads text p (Ok (kind, from)) → length cells' ≡ length cells → from < q → q ≤ length text → (q < length text → byte_at text q ≡ 10 → ⊥)
          → Reads text cells from 0 begin (Chosen [] deep) Ends (At q count) cells' → LineReads text p cells (Err (record { at = q })) cells'
      unfolding accept
      open_line (kind_read k c h m f) same ahead inside n (reads e u g (chosen {b = b} {r = r} {l = i}) x d) =
          line_wrong {q = q} same (omega arith) inside λ ls.
          record {
            last = whole ls (reading k (at plain (held b r i) [] deep));
            passes = passes_then (f ls) (lifted ls k g);
            stuck = record {
              no_turn = λ l. no_step ls k (byte_at text q) (at plain (held b r i) [] deep)
                  (not_taken (byte_at text q) (held b r i) deep x.0 x.1 x.2) (λ z. absurd (n l z));
              no_end = λ _. refl;
            };
          }

      pub line_open : KindReads text p (Ok (kind, from)) → ChoiceRead Ends text cells from deep 0 (At q count) cells' → (q < length text → byte_at text q ≡ 10 → ⊥)
          → LineReads text p cells (Err (record { at = q })) cells'
      line_open y a n = open_line y a.same (at_of a.within).0 (at_of a.within).1 n (a.reads [] outermost)

-- ---- the whole text

-- where the reader stands still, it has answered
scan_stops : (p : ℕ) (s : Whole) (t : Text) (k : ℕ) (u : Whole) → after turn (some s) (take k t) ≡ some u → k ≤ length t
    → (k < length t → turn u (get_or t k 0) ≡ none) → (k ≡ length t → accept u ≡ none) → scan turn accept p s t ≡ Reading.wrong (p + k)
unfolding scan after
scan_stops p s [] zero u e l n m =
    let z : s ≡ u = cc in ap (at_end p) (ap accept z ∙ m refl) ∙ ap Reading.wrong (omega arith)
scan_stops p s [] (suc k) u e l n m = absurd (omega arith)
scan_stops p s (c ∷ t) zero u e l n m =
    let z : s ≡ u = cc in rw (ap (λ (x : Whole). turn x c) z ∙ n (omega arith), scan) (ap Reading.wrong (omega arith))
scan_stops p s (c ∷ t) (suc k) u e l n m = by_turn (turn s c) refl e (λ v d. scan_stops (p + 1) v t k u d (omega arith) (λ z. n (omega arith)) (λ z. m (omega arith)))
  where
    by_turn : (x : Option Whole) → turn s c ≡ x → after turn x (take k t) ≡ some u
        → ((v : Whole) → after turn (some v) (take k t) ≡ some u → scan turn accept (p + 1) v t ≡ Reading.wrong (p + 1 + k))
        → ◌≡◌ {A = Reading (List Line)} (elim x [ none ↦ Reading.wrong p | some v ↦ scan turn accept (p + 1) v t ]) (Reading.wrong (p + suc k))
    by_turn none h d ih = absurd (none_some (sym (after_none turn (take k t)) ∙ d))
    by_turn (some v) h d ih = ih v d ∙ ap Reading.wrong (omega arith)

module _ (text : List ℕ) where
  pub reads_all : (p : ℕ) (ls : List Line) → Passes text 0 p at_first (whole ls starting) → read_lines (take p text) ≡ typed ls
  unfolding read_lines accept
  reads_all p ls a = typed_scan turn accept 0 at_first (take p text) ls (ap (accepted accept) a.over)

  pub reads_text : (p : ℕ) (ls : List Line) → length text ≤ p → Passes text 0 p at_first (whole ls starting) → read_lines text ≡ typed ls
  reads_text p ls h a = ap read_lines (sym (take_all p text h)) ∙ reads_all p ls a

  pub reads_wrong : (p q : ℕ) (ls : List Line) → Passes text 0 p at_first (whole ls starting) → Fails text p q (whole ls starting)
      → read_lines text ≡ Reading.wrong q
  unfolding read_lines
  reads_wrong p q ls a b =
      let c = fails_then a b in
      scan_stops 0 at_first text q c.last c.passes.over c.passes.inside
      (λ l. ap (turn c.last) (byte_inside text q l) ∙ c.stuck.no_turn l) c.stuck.no_end ∙ ap Reading.wrong (omega arith)
