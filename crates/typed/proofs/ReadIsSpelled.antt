-- A text that is read as an expression spells it.
-- What a state holds is what its text spells so far, frame by frame; each byte keeps that so.
use Rattle.std.specs.Prelude.{ℕ, zero, suc, ◌≡◌, refl, true, List, [], ◌∷◌, ◌++◌, eqb}
use Rattle.std.proofs.Common.{sym, ap, subst, ◌∙◌, append_assoc, append-nil, eqb-true}
use Rattle.std.proofs.Math.Option.{Option}
use Rattle.std.proofs.Math.Option.Option.{none, some}
use Rattle.number.specs.Branch.{by_cond}
use Rattle.number.specs.Limits.{deep}
use Rattle.meaning.specs.Re.{Text}
use Rattle.meaning.specs.Tests.{clash, and_true}
use Rattle.typed.specs.Sets.{Set, named, sets}
use Rattle.typed.specs.Sets.Set.{alnum}
use Rattle.typed.specs.Exp.{Exp}
use Rattle.typed.specs.Spells.{between, bare, hex, Spells}
use Rattle.typed.specs.Spells.Part.{atom, item, sequence, choice}
use Rattle.typed.specs.Spells.Spells.{itself, escaped, dotted, among, hollow, grouped, unmarked, starred, plussed, optional, alone, next, only, or}
use Rattle.typed.specs.Reader.{Key, Mark, Known, Frame, State, Step, marked, alt_on, made, put, key, starts, known}
use Rattle.typed.specs.Reader.{opened, shut_in, shut, barred, marks, by_key, first_digit, last_digit, by_name, step, onward, runs, ended, reads, begin}
use Rattle.typed.proofs.SpelledIsRead.{runs_append}
use Rattle.typed.specs.Reader.Key.{self, any, slash, less, opens, shuts, bar, mark, other}
use Rattle.typed.specs.Reader.Mark.{many, more, perhaps}
use Rattle.typed.specs.Reader.Known.{unknown, begun, whole}
use Rattle.typed.specs.Reader.Frame.{bared, held}
use Rattle.typed.specs.Reader.Mode.{plain, escape, half, naming}
use Rattle.typed.specs.Reader.State.{at}
use Rattle.typed.specs.Reader.Step.{wrong, go}

-- which byte has a key
abbrev pub marker : Mark → ℕ
marker many = 42
marker more = 43
marker perhaps = 63

abbrev pub KeyIs : ℕ → Key → Type 0
KeyIs c self = bare c ≡ true
KeyIs c any = c ≡ 46
KeyIs c slash = c ≡ 92
KeyIs c less = c ≡ 60
KeyIs c opens = c ≡ 40
KeyIs c shuts = c ≡ 41
KeyIs c bar = c ≡ 124
KeyIs c (mark m) = c ≡ marker m
KeyIs c other = Unit {0}

pub key_is : (c : ℕ) → KeyIs c (key c)
unfolding key
key_is c =
    by_cond (KeyIs c) (bare c) (λ h. h) λ _.
    by_cond (KeyIs c) (eqb c 46) (λ h. eqb-true c 46 h) λ _.
    by_cond (KeyIs c) (eqb c 92) (λ h. eqb-true c 92 h) λ _.
    by_cond (KeyIs c) (eqb c 60) (λ h. eqb-true c 60 h) λ _.
    by_cond (KeyIs c) (eqb c 40) (λ h. eqb-true c 40 h) λ _.
    by_cond (KeyIs c) (eqb c 41) (λ h. eqb-true c 41 h) λ _.
    by_cond (KeyIs c) (eqb c 124) (λ h. eqb-true c 124 h) λ _.
    by_cond (KeyIs c) (eqb c 42) (λ h. eqb-true c 42 h) λ _.
    by_cond (KeyIs c) (eqb c 43) (λ h. eqb-true c 43 h) λ _.
    by_cond (KeyIs c) (eqb c 63) (λ h. eqb-true c 63 h) λ _. tt

-- a name that is whole is that set's name, and one that is begun can be ended
pub record Begun (w : Text) : Type 0 where
  pub of : Set
  pub rest : Text
  pub is : w ++ rest ≡ named of

abbrev pub KnownIs : Text → Known → Type 0
KnownIs w unknown = Unit {0}
KnownIs w begun = Begun w
KnownIs w (whole s) = w ≡ named s

starts_rest : (v w : Text) → starts v w ≡ true → (t : Text) × (v ++ t ≡ w)
unfolding starts
starts_rest [] w h = (w, refl)
starts_rest (x ∷ v) [] h = absurd (clash h refl)
starts_rest (x ∷ v) (y ∷ w) h =
    let k = starts_rest v w (and_true (eqb x y) (starts v w) h).1 in
    let e = eqb-true x y (and_true (eqb x y) (starts v w) h).0 in
    (k.0, cc)

starts_both : (v w : Text) → starts v w ≡ true → starts w v ≡ true → v ≡ w
unfolding starts
starts_both [] [] g h = refl
starts_both [] (y ∷ w) g h = cc
starts_both (x ∷ v) [] g h = cc
starts_both (x ∷ v) (y ∷ w) g h =
    let k = starts_both v w (and_true (eqb x y) (starts v w) g).1 (and_true (eqb y x) (starts w v) h).1 in
    let e = eqb-true x y (and_true (eqb x y) (starts v w) g).0 in
    cc

pub known_is : (w : Text) (ss : List Set) → KnownIs w (known w ss)
unfolding known
known_is w [] = tt
known_is w (s ∷ ss) =
    by_cond (KnownIs w) (starts w (named s))
    (λ g. by_cond (KnownIs w) (starts (named s) w) (λ h. starts_both w (named s) g h)
    (λ h. let k = starts_rest w (named s) g in record { of = s; rest = k.0; is = k.1 }))
    (λ g. known_is w ss)

-- a frame and its text
pub data Kept (n : ℕ) : Text → Frame → Type 0 where
  fresh : Kept n [] (bared none)
  after_bar : {v : Text} {a : Exp} → Spells choice n v a → Kept n (v ++ (124 ∷ [])) (bared (some a))
  one : {u w : Text} {b : Option Exp} {e : Exp} → Kept n u (bared b) → Spells item n w e → Kept n (u ++ w) (held b none e)
  row : {u v w : Text} {b : Option Exp} {a e : Exp} → Kept n u (bared b) → Spells sequence n v a → Spells item n w e
      → Kept n (u ++ (v ++ w)) (held b (some a) e)

pub data Nested : ℕ → Text → Frame → List Frame → Type 0 where
  outmost : {w : Text} {f : Frame} → Kept deep w f → Nested deep w f []
  within : {n : ℕ} {v w : Text} {f g : Frame} {gs : List Frame} → Nested (suc n) v g gs → Kept n w f → Nested n (v ++ (40 ∷ w)) f (g ∷ gs)

pub data Held : Text → State → Type 0 where
  in_plain : {n : ℕ} {w : Text} {f : Frame} {fs : List Frame} → Nested n w f fs → Held w (at plain f fs n)
  in_escape : {n : ℕ} {w : Text} {f : Frame} {fs : List Frame} → Nested n w f fs → Held (w ++ (92 ∷ [])) (at escape f fs n)
  in_half : {n x : ℕ} (g : ℕ) {w : Text} {f : Frame} {fs : List Frame} → Nested n w f fs → hex g ≡ some x → Held (w ++ (92 ∷ g ∷ [])) (at (half x) f fs n)
  in_name : {n : ℕ} {u w : Text} {f : Frame} {fs : List Frame} → Nested n w f fs → Begun u
      → runs (go (at plain f fs n)) (60 ∷ u) ≡ go (at (naming u) f fs n) → Held (w ++ (60 ∷ u)) (at (naming u) f fs n)

pub data HeldBy : Text → Step → Type 0 where
  none_held : {w : Text} → HeldBy w wrong
  still : {w : Text} {s : State} → Held w s → HeldBy w (go s)

module _ {n : ℕ} {v w : Text} where
  pub choice_as : {e : Exp} → v ≡ w → Spells choice n v e → Spells choice n w e
  choice_as {e} h s = subst (λ (t : Text). Spells choice n t e) h s

  pub kept_as : {f : Frame} → v ≡ w → Kept n v f → Kept n w f
  kept_as {f} h s = subst (λ (t : Text). Kept n t f) h s

  pub nested_as : {f : Frame} {fs : List Frame} → v ≡ w → Nested n v f fs → Nested n w f fs
  nested_as {f} {fs} h s = subst (λ (t : Text). Nested n t f fs) h s

pub held_as : {v w : Text} {s : State} → v ≡ w → Held v s → Held w s
held_as {s = s} h k = subst (λ (t : Text). Held t s) h k

module _ {n : ℕ} where
  -- a choice before the bar and a sequence after it
  joined : {u v : Text} {b : Option Exp} {a : Exp} → Kept n u (bared b) → Spells sequence n v a → Spells choice n (u ++ v) (alt_on b a)
  joined fresh s = only s
  joined {v = w} (after_bar {v = v} c) s = choice_as (sym (append_assoc v (124 ∷ []) w)) (or c s)

  pub choice_of : {w : Text} {b r : Option Exp} {e : Exp} → Kept n w (held b r e) → Spells choice n w (made b r e)
  choice_of (one k i) = joined k (alone i)
  choice_of (row k s i) = joined k (next s i)

  pub kept_put : {v w : Text} {f : Frame} {e : Exp} → Kept n v f → Spells item n w e → Kept n (v ++ w) (put e f)
  kept_put fresh i = one fresh i
  kept_put (after_bar c) i = one (after_bar c) i
  kept_put {w = w} (one {u = u} {w = v} k j) i = kept_as (sym (append_assoc u v w)) (row k (alone j) i)
  kept_put {w = w} (row {u = u} {v = v} {w = x} k s j) i = kept_as (sym (append_assoc u (v ++ x) w)) (row k (next s j) i)

  item_marked : {w : Text} {e : Exp} (m : Mark) → Spells item n w e → Spells item n (w ++ (marker m ∷ [])) (marked m e)
  item_marked many i = starred i
  item_marked more i = plussed i
  item_marked perhaps i = optional i

  pub kept_marked : {v : Text} {b r : Option Exp} {e : Exp} (m : Mark) → Kept n v (held b r e) → Kept n (v ++ (marker m ∷ [])) (held b r (marked m e))
  kept_marked m (one {u = u} {w = w} k i) = kept_as (sym (append_assoc u w (marker m ∷ []))) (one k (item_marked m i))
  kept_marked m (row {u = u} {v = v} {w = w} k s i) =
      kept_as (ap (u ++◌) (sym (append_assoc v w (marker m ∷ []))) ∙ sym (append_assoc u (v ++ w) (marker m ∷ []))) (row k s (item_marked m i))

-- the same of the frame at hand among open ones: what keeps a frame's text growing keeps the whole growing
nested_on : {n : ℕ} {v : Text} (t : Text) {f g : Frame} {fs : List Frame} → ((w : Text) → Kept n w f → Kept n (w ++ t) g) → Nested n v f fs → Nested n (v ++ t) g fs
nested_on t h (outmost k) = outmost (h _ k)
nested_on t h (within {v = v} {w = w} o k) = nested_as (sym (append_assoc v (40 ∷ w) t)) (within o (h _ k))

nested_put : {n : ℕ} {v w : Text} {f : Frame} {fs : List Frame} {e : Exp} → Nested n v f fs → Spells atom n w e → Nested n (v ++ w) (put e f) fs
nested_put {w = w} k a = nested_on w (λ _ h. kept_put h (unmarked a)) k

-- each arm of a step
opened_held : {n : ℕ} {w : Text} {f : Frame} {fs : List Frame} → Nested n w f fs → HeldBy (w ++ (40 ∷ [])) (opened f fs n)
unfolding opened
opened_held {n = zero} k = none_held
opened_held {n = suc n} k = still (in_plain (within k fresh))

pub shut_in_held : {n : ℕ} {v w : Text} {f g : Frame} {gs : List Frame} → Nested (suc n) v g gs → Kept n w f → HeldBy ((v ++ (40 ∷ w)) ++ (41 ∷ [])) (shut_in f g gs n)
unfolding shut_in
shut_in_held {v = v} o fresh = still (in_plain (nested_as (sym (append_assoc v (40 ∷ []) (41 ∷ []))) (nested_put o hollow)))
shut_in_held o (after_bar c) = none_held
shut_in_held {v = v} o (one {u = u} {w = w} k i) =
    still (in_plain (nested_as (sym (append_assoc v (40 ∷ (u ++ w)) (41 ∷ []))) (nested_put o (grouped (choice_of (one k i))))))
shut_in_held {v = v} o (row {u = u} {v = x} {w = w} k s i) =
    still (in_plain (nested_as (sym (append_assoc v (40 ∷ (u ++ (x ++ w))) (41 ∷ []))) (nested_put o (grouped (choice_of (row k s i))))))

shut_held : {n : ℕ} {w : Text} {f : Frame} {fs : List Frame} → Nested n w f fs → HeldBy (w ++ (41 ∷ [])) (shut f fs n)
unfolding shut
shut_held (outmost k) = none_held
shut_held (within o k) = shut_in_held o k

barred_held : {n : ℕ} {w : Text} {f : Frame} {fs : List Frame} → Nested n w f fs → HeldBy (w ++ (124 ∷ [])) (barred f fs n)
unfolding barred
barred_held {f = bared b} k = none_held
barred_held {f = held b r e} k = still (in_plain (nested_on (124 ∷ []) (λ _ h. after_bar (choice_of h)) k))

marks_held : {n : ℕ} {w : Text} {f : Frame} {fs : List Frame} (m : Mark) → Nested n w f fs → HeldBy (w ++ (marker m ∷ [])) (marks m f fs n)
unfolding marks
marks_held {f = bared b} m k = none_held
marks_held {f = held b r e} m k = still (in_plain (nested_on (marker m ∷ []) (λ _ h. kept_marked m h) k))

with_byte : (w : Text) {x : Step} (c d : ℕ) → c ≡ d → HeldBy (w ++ (d ∷ [])) x → HeldBy (w ++ (c ∷ [])) x
with_byte w {x} c d h k = subst (λ (y : ℕ). HeldBy (w ++ (y ∷ [])) x) (sym h) k

none_begun : Begun []
none_begun = record { of = alnum; rest = named alnum; is = refl }

name_begins : (f : Frame) (fs : List Frame) (n : ℕ) → runs (go (at plain f fs n)) (60 ∷ []) ≡ go (at (naming []) f fs n)
unfolding between bare key by_key step onward runs
name_begins f fs n = refl

by_key_held : {n : ℕ} (c : ℕ) {w : Text} {f : Frame} {fs : List Frame} (k : Key) → KeyIs c k → Nested n w f fs → HeldBy (w ++ (c ∷ [])) (by_key k c f fs n)
unfolding by_key
by_key_held c self h k = still (in_plain (nested_put k (itself h)))
by_key_held c {w = w} any h k = with_byte w c 46 h (still (in_plain (nested_put k dotted)))
by_key_held c {w = w} slash h k = with_byte w c 92 h (still (in_escape k))
by_key_held c {w = w} less h k = with_byte w c 60 h (still (in_name k none_begun (name_begins _ _ _)))
by_key_held c {w = w} opens h k = with_byte w c 40 h (opened_held k)
by_key_held c {w = w} shuts h k = with_byte w c 41 h (shut_held k)
by_key_held c {w = w} bar h k = with_byte w c 124 h (barred_held k)
by_key_held c {w = w} (mark m) h k = with_byte w c (marker m) h (marks_held m k)
by_key_held c other h k = none_held

first_held : {n : ℕ} {w : Text} {f : Frame} {fs : List Frame} (c : ℕ) (o : Option ℕ) → hex c ≡ o → Nested n w f fs
    → HeldBy ((w ++ (92 ∷ [])) ++ (c ∷ [])) (first_digit o f fs n)
unfolding first_digit
first_held c none h k = none_held
first_held {w = w} c (some x) h k = still (held_as (sym (append_assoc w (92 ∷ []) (c ∷ []))) (in_half c k h))

last_held : {n : ℕ} {w : Text} {f : Frame} {fs : List Frame} (g x c : ℕ) (o : Option ℕ) → hex g ≡ some x → hex c ≡ o → Nested n w f fs
    → HeldBy ((w ++ (92 ∷ g ∷ [])) ++ (c ∷ [])) (last_digit x o f fs n)
unfolding last_digit
last_held g x c none d h k = none_held
last_held {w = w} g x c (some y) d h k = still (held_as (sym (append_assoc w (92 ∷ g ∷ []) (c ∷ []))) (in_plain (nested_put k (escaped d h))))

-- the text of the name so far was read in this way
abbrev NameSo : ℕ → Frame → List Frame → Text → Type 0
NameSo n f fs u = runs (go (at plain f fs n)) (60 ∷ u) ≡ go (at (naming u) f fs n)

name_on : (n : ℕ) (f : Frame) (fs : List Frame) (u : Text) (c : ℕ) → NameSo n f fs u → known (u ++ (c ∷ [])) sets ≡ begun → NameSo n f fs (u ++ (c ∷ []))
unfolding by_name step onward runs
name_on n f fs u c e h = runs_append (go (at plain f fs n)) (60 ∷ u) (c ∷ []) ∙ ap (λ x. runs x (c ∷ [])) e ∙ rw h refl

name_held : {n : ℕ} {w : Text} {f : Frame} {fs : List Frame} (u : Text) (c : ℕ) (o : Known) → known (u ++ (c ∷ [])) sets ≡ o → KnownIs (u ++ (c ∷ [])) o
    → NameSo n f fs u → Nested n w f fs → HeldBy (w ++ (60 ∷ (u ++ (c ∷ [])))) (by_name o (u ++ (c ∷ [])) f fs n)
unfolding by_name
name_held u c unknown e h g k = none_held
name_held {n = n} {f = f} {fs = fs} u c begun e h g k = still (in_name k h (name_on n f fs u c g e))
name_held {w = w} u c (whole s) e h g k = still (held_as (ap (λ (t : Text). w ++ (60 ∷ t)) (sym h)) (in_plain (nested_put k (among s))))

held_by_as : {v w : Text} {x : Step} → v ≡ w → HeldBy v x → HeldBy w x
held_by_as {x = x} h k = subst (λ (t : Text). HeldBy t x) h k

pub step_held : {w : Text} {s : State} (c : ℕ) → Held w s → HeldBy (w ++ (c ∷ [])) (step s c)
unfolding step
step_held c (in_plain k) = by_key_held c (key c) (key_is c) k
step_held c (in_escape k) = first_held c (hex c) refl k
step_held c (in_half g k h) = last_held g _ c (hex c) h refl k
step_held c (in_name {u = u} {w = w} k h g) =
    held_by_as (sym (append_assoc w (60 ∷ u) (c ∷ []))) (name_held u c (known (u ++ (c ∷ [])) sets) refl (known_is _ sets) g k)

onward_held : {w : Text} (x : Step) (c : ℕ) → HeldBy w x → HeldBy (w ++ (c ∷ [])) (onward x c)
unfolding onward
onward_held wrong c none_held = none_held
onward_held (go s) c (still h) = step_held c h

pub runs_held : {w : Text} (x : Step) (t : Text) → HeldBy w x → HeldBy (w ++ t) (runs x t)
unfolding runs
runs_held {w} x [] h = held_by_as (sym (append-nil w)) h
runs_held {w} x (c ∷ t) h = held_by_as (append_assoc w (c ∷ []) t) (runs_held (onward x c) t (onward_held x c h))

abbrev pub Spelled : Text → Option Exp → Type 0
Spelled w none = Unit {0}
Spelled w (some e) = Spells choice deep w e

pub ended_held : (w : Text) (x : Step) → HeldBy w x → Spelled w (ended x)
unfolding ended
ended_held w wrong h = tt
ended_held w (go (at plain (bared b) fs n)) h = tt
ended_held w (go (at plain (held b r e) (f ∷ fs) n)) h = tt
ended_held w (go (at plain (held b r e) [] n)) (still (in_plain (outmost k))) = choice_of k
ended_held w (go (at escape f fs n)) h = tt
ended_held w (go (at (half x) f fs n)) h = tt
ended_held w (go (at (naming u) f fs n)) h = tt

pub reads_spelled : (w : Text) (e : Exp) → reads w ≡ some e → Spells choice deep w e
unfolding reads
reads_spelled w e h = subst (Spelled w) h (ended_held w (runs (go begin) w) (runs_held (go begin) w (still (in_plain (outmost fresh)))))
