-- A text that spells an expression is read as that expression.
-- By the grammar: an atom or item is put into the frame at hand, a sequence or choice fills one that was just begun.
use Rattle.std.specs.Prelude.{ℕ, suc, ◌+◌, ◌*◌, ◌≡◌, refl, true, List, [], ◌∷◌, ◌++◌}
use Rattle.std.proofs.Common.{ap, ◌∙◌}
use Rattle.std.proofs.Math.Option.{Option}
use Rattle.std.proofs.Math.Option.Option.{none, some}
use Rattle.number.specs.Limits.{deep}
use Rattle.meaning.specs.Re.{Text}
use Rattle.typed.specs.Sets.{Set, named}
use Rattle.typed.specs.Sets.Set.{alnum, alpha, blank, cntrl, digit, graph, lower, print, punct, space, upper, xdigit}
use Rattle.typed.specs.Exp.{Exp}
use Rattle.typed.specs.Exp.Exp.{byte, dot, set, empty, cat, alt, star, plus, maybe}
use Rattle.typed.specs.Spells.{between, bare, hex, Part, Spells}
use Rattle.typed.specs.Spells.Part.{atom, item, sequence, choice}
use Rattle.typed.specs.Spells.Spells.{itself, escaped, dotted, among, hollow, grouped, unmarked, starred, plussed, optional, alone, next, only, or}
use Rattle.typed.specs.Reader.{Frame, Step, cat_on, made, put, key, starts, known}
use Rattle.typed.specs.Reader.{opened, shut_in, shut, barred, marks, by_key, first_digit, last_digit, by_name, step, onward, runs, ended, reads}
use Rattle.typed.specs.Reader.Key.{self}
use Rattle.typed.specs.Reader.Frame.{bared, held}
use Rattle.typed.specs.Reader.Mode.{plain}
use Rattle.typed.specs.Reader.State.{at}
use Rattle.typed.specs.Reader.Step.{go}

pub runs_append : (x : Step) (v w : Text) → runs x (v ++ w) ≡ runs (runs x v) w
unfolding runs
runs_append x [] w = refl
runs_append x (c ∷ v) w = runs_append (onward x c) v w

pub key_self : (c : ℕ) → bare c ≡ true → key c ≡ self
unfolding key
key_self c h = rw h refl

-- one item more, when the whole text is read
abbrev pub Puts : ℕ → Text → Exp → Type 0
Puts n w e = (f : Frame) (fs : List Frame) → runs (go (at plain f fs n)) w ≡ go (at plain (put e f) fs n)

pub record Rows (n : ℕ) (w : Text) (e : Exp) (b : Option Exp) (fs : List Frame) : Type 0 where
  pub row : Option Exp
  pub last : Exp
  pub is : cat_on row last ≡ e
  pub read : runs (go (at plain (bared b) fs n)) w ≡ go (at plain (held b row last) fs n)

pub record Chooses (n : ℕ) (w : Text) (e : Exp) (fs : List Frame) : Type 0 where
  pub before : Option Exp
  pub row : Option Exp
  pub last : Exp
  pub is : made before row last ≡ e
  pub read : runs (go (at plain (bared none) fs n)) w ≡ go (at plain (held before row last) fs n)

abbrev pub Read : Part → ℕ → Text → Exp → Type 0
Read atom n w e = Puts n w e
Read item n w e = Puts n w e
Read sequence n w e = (b : Option Exp) (fs : List Frame) → Rows n w e b fs
Read choice n w e = (fs : List Frame) → Chooses n w e fs

pub name_read : (n : ℕ) (s : Set) → Puts n (60 ∷ named s) (set s)
unfolding named between bare hex key starts known by_key by_name step onward runs
name_read n alnum f fs = refl
name_read n alpha f fs = refl
name_read n blank f fs = refl
name_read n cntrl f fs = refl
name_read n digit f fs = refl
name_read n graph f fs = refl
name_read n lower f fs = refl
name_read n print f fs = refl
name_read n punct f fs = refl
name_read n space f fs = refl
name_read n upper f fs = refl
name_read n xdigit f fs = refl

itself_read : (n c : ℕ) → bare c ≡ true → Puts n (c ∷ []) (byte c)
unfolding by_key step onward runs
itself_read n c h f fs = rw (key_self c h) refl

escaped_read : (n g h x y : ℕ) → hex g ≡ some x → hex h ≡ some y → Puts n (92 ∷ g ∷ h ∷ []) (byte (x * 16 + y))
unfolding between bare key by_key first_digit last_digit step onward runs
escaped_read n g h x y d e f fs = rw (d, first_digit, step, e) refl

dotted_read : (n : ℕ) → Puts n (46 ∷ []) dot
unfolding between bare key by_key step onward runs
dotted_read n f fs = refl

hollow_read : (n : ℕ) → Puts (suc n) (40 ∷ 41 ∷ []) empty
unfolding between bare key opened shut shut_in by_key step onward runs
hollow_read n f fs = refl

grouped_read : (n : ℕ) (w : Text) (e : Exp) → Read choice n w e → Puts (suc n) (40 ∷ (w ++ (41 ∷ []))) e
unfolding between bare key opened shut shut_in by_key step onward runs
grouped_read n w e h f fs =
    let c = h (f ∷ fs) in
    runs_append (go (at plain (bared none) (f ∷ fs) n)) w (41 ∷ [])
    ∙ ap (λ x. runs x (41 ∷ [])) c.read
    ∙ ap (λ x. go (at plain (put x f) fs (suc n))) c.is

put_star : (e : Exp) (f : Frame) (fs : List Frame) (n : ℕ) → runs (go (at plain (put e f) fs n)) (42 ∷ []) ≡ go (at plain (put (star e) f) fs n)
unfolding between bare key marks by_key step onward runs
put_star e (bared b) fs n = refl
put_star e (held b r l) fs n = refl

put_plus : (e : Exp) (f : Frame) (fs : List Frame) (n : ℕ) → runs (go (at plain (put e f) fs n)) (43 ∷ []) ≡ go (at plain (put (plus e) f) fs n)
unfolding between bare key marks by_key step onward runs
put_plus e (bared b) fs n = refl
put_plus e (held b r l) fs n = refl

put_maybe : (e : Exp) (f : Frame) (fs : List Frame) (n : ℕ) → runs (go (at plain (put e f) fs n)) (63 ∷ []) ≡ go (at plain (put (maybe e) f) fs n)
unfolding between bare key marks by_key step onward runs
put_maybe e (bared b) fs n = refl
put_maybe e (held b r l) fs n = refl

-- read v, then w
both : (x : Step) {y z : Step} (v w : Text) → runs x v ≡ y → runs y w ≡ z → runs x (v ++ w) ≡ z
both x v w d e = runs_append x v w ∙ ap (λ s. runs s w) d ∙ e

barred_read : (n : ℕ) (b r : Option Exp) (l e : Exp) (fs : List Frame) → made b r l ≡ e
    → runs (go (at plain (held b r l) fs n)) (124 ∷ []) ≡ go (at plain (bared (some e)) fs n)
unfolding between bare key barred by_key step onward runs
barred_read n b r l e fs h = ap (λ x. go (at plain (bared (some x)) fs n)) h

bar_then : (x : Step) (v w : Text) → runs x (v ++ (124 ∷ w)) ≡ runs (runs (runs x v) (124 ∷ [])) w
unfolding runs
bar_then x v w = runs_append x v (124 ∷ w)

pub is_read : {p : Part} {n : ℕ} {w : Text} {e : Exp} → Spells p n w e → Read p n w e
is_read (itself h) = itself_read _ _ h
is_read (escaped g h) = escaped_read _ _ _ _ _ g h
is_read dotted = dotted_read _
is_read (among s) = name_read _ s
is_read hollow = hollow_read _
is_read (grouped h) = grouped_read _ _ _ (is_read h)
is_read (unmarked h) = is_read h
is_read {n = n} (starred {w = w} {e = e} h) = λ f fs. both _ w _ (is_read h f fs) (put_star e f fs n)
is_read {n = n} (plussed {w = w} {e = e} h) = λ f fs. both _ w _ (is_read h f fs) (put_plus e f fs n)
is_read {n = n} (optional {w = w} {e = e} h) = λ f fs. both _ w _ (is_read h f fs) (put_maybe e f fs n)
is_read (alone {e = e} h) = λ b fs. record { row = none; last = e; is = refl; read = is_read h (bared b) fs }
is_read (next {v = v} {w = w} {a = a} {b = e} g h) = λ b fs.
    let k = is_read g b fs in
    record { row = some (cat_on k.row k.last); last = e; is = ap (λ x. cat x e) k.is; read = both _ v w k.read (is_read h _ fs) }
is_read (only h) = λ fs.
    let k = is_read h none fs in
    record { before = none; row = k.row; last = k.last; is = k.is; read = k.read }
is_read {n = n} (or {v = v} {w = w} {a = a} {b = e} g h) = λ fs.
    let j = is_read g fs in
    let k = is_read h (some a) fs in
    record {
      before = some a;
      row = k.row;
      last = k.last;
      is = ap (alt a) k.is;
      read = bar_then _ v w ∙ ap (λ x. runs (runs x (124 ∷ [])) w) j.read
          ∙ ap (λ x. runs x w) (barred_read n j.before j.row j.last a fs j.is) ∙ k.read;
    }

pub spelled_reads : (w : Text) (e : Exp) → Spells choice deep w e → reads w ≡ some e
unfolding reads ended
spelled_reads w e h = let k = is_read h [] in rw k.read (ap some k.is)
