-- Runs of neighbouring bytes, as the loop over a table of flags comes to them.
-- Flags that are down are passed over; a run ends before the next such flag, or at the last byte.
use Prim.Native.Nat.{ℕ, zero, suc, ◌+◌, ◌-◌, ◌≤◌, ◌<◌}
use native.Mathlib.Omega.{arith}
use Rattle.std.proofs.Math.Decide.{dec_lt}
use Rattle.std.specs.Prelude.{◌≡◌, Bool, cond, ◌&&◌, List, [], ◌∷◌, ◌++◌, eqb, length, get_or, Some, None}
use Rattle.std.proofs.Math.Path.{refl, ap}
use Rattle.std.proofs.Common.{sym, subst, ◌∙◌, append_assoc, eq-eqb, ne_eqb}
use Rattle.std.proofs.Math.Bool.{true, false}
use Rattle.number.specs.Limits.{bytes}
use Rattle.number.specs.Branch.{by_cond}
use Rattle.number.specs.Lists.{Writes}
use Rattle.advised.specs.Advice.{newline, space, kept, Run, neighbours, joined, runs, byte_name, run_name, run_names, tested_line}
use Rattle.candidates.specs.Promises.{run_words, flagged, kept_from, runs_from, NextUp, RunOf}
use Rattle.candidates.specs.Promises.NextUp.{up_at, none_up}
use Rattle.phrases.specs.Left.{Left, left_as, left_room, left_step, left_none}
use Rattle.number.specs.Quoted.{quoted}
use Rattle.typed.specs.Spells.{bare}

-- ---- runs of the bytes for which a test holds

-- the first run starts at c or above
abbrev Above : ℕ → List Run → Type 0
Above c [] = Unit {0}
Above c (r ∷ rs) = c ≤ r.first

above_less : (b c : ℕ) (rs : List Run) → b ≤ c → Above c rs → Above b rs
above_less b c [] h a = tt
above_less b c (r ∷ rs) h a = omega arith

joined_above : (c : ℕ) (rs : List Run) → Above c (joined c rs)
unfolding joined
joined_above c [] = omega arith
joined_above c (r ∷ rs) = by_cond (Above c) (neighbours c && eqb r.first (c + 1)) (λ e. omega arith) (λ e. omega arith)

and_false : (b : Bool) → b && false ≡ false
and_false true = refl
and_false false = refl

-- a byte that is no neighbour of the first run is a run of its own; one that is lengthens it
joined_apart : (c : ℕ) (rs : List Run) → Above (c + 2) rs → joined c rs ≡ record { first = c; last = c } ∷ rs
unfolding joined
joined_apart c [] a = refl
joined_apart c (r ∷ rs) a = rw (ne_eqb r.first (c + 1) (λ z. omega arith), and_false (neighbours c), joined) refl

joined_unlike : (c : ℕ) (rs : List Run) → neighbours c ≡ false → joined c rs ≡ record { first = c; last = c } ∷ rs
unfolding joined
joined_unlike c [] e = refl
joined_unlike c (r ∷ rs) e = rw (e, joined) refl

joined_next : (c hi : ℕ) (rs : List Run) → neighbours c ≡ true → joined c (record { first = c + 1; last = hi } ∷ rs) ≡ record { first = c; last = hi } ∷ rs
unfolding joined
joined_next c hi rs e = rw (e, eq-eqb (c + 1) (c + 1) refl, joined) refl

module _ (test : ℕ → Bool) where
  kept_skip : (n c : ℕ) → test c ≡ false → kept test (suc n) c ≡ kept test n (c + 1)
  unfolding kept
  kept_skip n c e = rw (e, kept) refl

  kept_take : (n c : ℕ) → test c ≡ true → kept test (suc n) c ≡ c ∷ kept test n (c + 1)
  unfolding kept
  kept_take n c e = rw (e, kept) refl

  pub from_down : (c : ℕ) → c < bytes → test c ≡ false → kept_from test c ≡ kept_from test (c + 1)
  from_down c h e =
      let s : bytes - c ≡ suc (bytes - (c + 1)) = omega arith in
      ap (λ n. kept test n c) s ∙ kept_skip (bytes - (c + 1)) c e

  from_up : (c : ℕ) → c < bytes → test c ≡ true → runs_from test c ≡ joined c (runs_from test (c + 1))
  unfolding runs
  from_up c h e =
      let s : bytes - c ≡ suc (bytes - (c + 1)) = omega arith in
      ap (λ n. runs (kept test n c)) s ∙ ap runs (kept_take (bytes - (c + 1)) c e)

  from_end : (c : ℕ) → bytes ≤ c → runs_from test c ≡ []
  unfolding runs kept
  from_end c h =
      let s : bytes - c ≡ 0 = omega arith in
      ap (λ n. runs (kept test n c)) s

  kept_above : (n c : ℕ) → Above c (runs (kept test n c))
  unfolding runs kept
  kept_above zero c = tt
  kept_above (suc n) c = by_test (test c) refl (kept_above n (c + 1))
    where
      by_test : (b : Bool) → test c ≡ b → Above (c + 1) (runs (kept test n (c + 1))) → Above c (runs (kept test (suc n) c))
      by_test true e ih = rw (e, kept) (joined_above c (runs (kept test n (c + 1))))
      by_test false e ih = rw (e, kept) (above_less c (c + 1) (runs (kept test n (c + 1))) (omega arith) ih)

  abbrev AllUp : ℕ → ℕ → Type 0
  AllUp lo hi = (i : ℕ) → lo ≤ i → i ≤ hi → test i ≡ true

  abbrev AllNear : ℕ → ℕ → Type 0
  AllNear lo hi = (i : ℕ) → lo ≤ i → i < hi → neighbours i ≡ true

  -- why a run goes no further
  pub data Ends (hi : ℕ) : Type 0 where
    is_down : (hi + 1 < bytes → test (hi + 1) ≡ false) → Ends hi
    unlike : neighbours hi ≡ false → Ends hi

  -- what follows a run starts two bytes further, or above
  after_apart : (hi : ℕ) → (hi + 1 < bytes → test (hi + 1) ≡ false) → Above (hi + 2) (runs_from test (hi + 1))
  after_apart hi stops =
      elim (dec_lt (hi + 1) bytes) [
        | yes h ↦
            let e : runs_from test (hi + 1) ≡ runs_from test (hi + 2) = ap runs (from_down (hi + 1) h (stops h)) ∙ ap (runs_from test) (plus_two hi) in
            subst (Above (hi + 2)) (sym e) (kept_above (bytes - (hi + 2)) (hi + 2))
        | no g ↦ subst (Above (hi + 2)) (sym (from_end (hi + 1) (omega arith))) tt
      ]
    where
      plus_two : (n : ℕ) → n + 1 + 1 ≡ n + 2
      plus_two n = omega arith

  -- a whole run, by how many bytes it has behind its first
  ended : (hi : ℕ) → Ends hi → joined hi (runs_from test (hi + 1)) ≡ record { first = hi; last = hi } ∷ runs_from test (hi + 1)
  ended hi (is_down stops) = joined_apart hi (runs_from test (hi + 1)) (after_apart hi stops)
  ended hi (unlike e) = joined_unlike hi (runs_from test (hi + 1)) e

  run_by : (d lo hi : ℕ) → hi ≡ lo + d → hi < bytes → AllUp lo hi → AllNear lo hi → Ends hi
      → runs_from test lo ≡ record { first = lo; last = hi } ∷ runs_from test (hi + 1)
  run_by zero lo hi e h up near stops =
      let same : lo ≡ hi = omega arith in
      let one : runs_from test hi ≡ record { first = hi; last = hi } ∷ runs_from test (hi + 1) =
      from_up hi h (up hi (omega arith) (omega arith)) ∙ ended hi stops in
      subst (λ x. runs_from test x ≡ record { first = x; last = hi } ∷ runs_from test (hi + 1)) (sym same) one
  run_by (suc d) lo hi e h up near stops =
      let rest : runs_from test (lo + 1) ≡ record { first = lo + 1; last = hi } ∷ runs_from test (hi + 1) =
      run_by d (lo + 1) hi (omega arith) h (λ i l m. up i (omega arith) m) (λ i l m. near i (omega arith) m) stops in
      from_up lo (omega arith) (up lo (omega arith) (omega arith)) ∙ ap (joined lo) rest ∙ joined_next lo hi (runs_from test (hi + 1)) (near lo (omega arith) (omega arith))

  pub run_whole : (lo hi : ℕ) → lo ≤ hi → hi < bytes → AllUp lo hi → AllNear lo hi → Ends hi
      → runs_from test lo ≡ record { first = lo; last = hi } ∷ runs_from test (hi + 1)
  run_whole lo hi l h up near stops = run_by (hi - lo) lo hi (omega arith) h up near stops

-- two tests that agree on the bytes keep the same of them
kept_alike : (f g : ℕ → Bool) (n c : ℕ) → ((i : ℕ) → i < c + n → f i ≡ g i) → kept f n c ≡ kept g n c
unfolding kept
kept_alike f g zero c e = refl
kept_alike f g (suc n) c e = by_test (g c) refl (kept_alike f g n (c + 1) (λ i h. e i (omega arith)))
  where
    by_test : (b : Bool) → g c ≡ b → kept f n (c + 1) ≡ kept g n (c + 1) → kept f (suc n) c ≡ kept g (suc n) c
    by_test true h ih = kept_take f n c (e c (omega arith) ∙ h) ∙ ap (λ x. c ∷ x) ih ∙ sym (kept_take g n c h)
    by_test false h ih = kept_skip f n c (e c (omega arith) ∙ h) ∙ ih ∙ sym (kept_skip g n c h)

pub tested_alike : (f g : ℕ → Bool) → ((i : ℕ) → i < bytes → f i ≡ g i) → tested_line f ≡ tested_line g
unfolding tested_line
tested_alike f g e = ap (λ cs. quoted "here could stand:" ++ (run_names (runs cs) ++ (newline ∷ []))) (kept_alike f g bytes 0 (λ i h. e i (omega arith)))

-- the test of the code
pub alike_both : (c : ℕ) (a b : Bool) → a ≡ bare c → b ≡ bare (c + 1) → a && b ≡ neighbours c
unfolding neighbours
alike_both c a b e h = rw (e, h) refl

pub alike_not : (c : ℕ) (a : Bool) → a ≡ bare c → a ≡ false → a ≡ neighbours c
unfolding neighbours
alike_not c a e z = rw (← e, z) refl

-- the flags from c up to r are down
pub record Passed (found : List Bool) (c r : ℕ) : Type 0 where
  pub inside : r ≤ bytes
  pub passed : kept_from (flagged found) c ≡ kept_from (flagged found) r

pub passed_none : (found : List Bool) (c : ℕ) → c ≤ bytes → Passed found c c
passed_none found c h = record { inside = h; passed = refl }

pub passed_more : (found : List Bool) (c r : ℕ) → r < bytes → get_or found r false ≡ false → Passed found c r → Passed found c (r + 1)
unfolding flagged
passed_more found c r h e p = record { inside = omega arith; passed = p.passed ∙ from_down (flagged found) r h e }

pub next_up : (found : List Bool) (c r : ℕ) → c ≤ r → r < bytes → get_or found r false ≡ true → Passed found c r → NextUp found c (Some r)
unfolding flagged
next_up found c r l h e p = up_at l h p.passed e

pub next_none : (found : List Bool) (c r : ℕ) → bytes ≤ r → Passed found c r → NextUp found c None
unfolding kept
next_none found c r h p =
    let s : bytes - r ≡ 0 = omega arith in
    none_up (p.passed ∙ ap (λ n. kept (flagged found) n r) s)

-- the flags from lo up to hi are up, and each but the last has a neighbour
pub record UpTo (found : List Bool) (lo hi : ℕ) : Type 0 where
  pub from : lo ≤ hi
  pub inside : hi < bytes
  pub up : (i : ℕ) → lo ≤ i → i ≤ hi → flagged found i ≡ true
  pub near : (i : ℕ) → lo ≤ i → i < hi → neighbours i ≡ true

pub up_one : (found : List Bool) (lo : ℕ) → lo < bytes → flagged found lo ≡ true → UpTo found lo lo
up_one found lo h e = record { from = omega arith; inside = h; up = λ i l m. ap (flagged found) (same i l m) ∙ e; near = λ i l m. absurd (omega arith) }
  where
    same : (i : ℕ) → lo ≤ i → i ≤ lo → i ≡ lo
    same i l m = omega arith

pub up_more : (found : List Bool) (lo hi : ℕ) → hi + 1 < bytes → get_or found (hi + 1) false ≡ true → true ≡ neighbours hi → UpTo found lo hi → UpTo found lo (hi + 1)
unfolding flagged
up_more found lo hi h n e u =
    record {
      from = omega (arith, u.from);
      inside = h;
      up = λ i l m. elim (dec_lt hi i) [
        | yes a ↦ ap (flagged found) (same i m a) ∙ n
        | no b ↦ u.up i l (omega arith)
      ];
      near = λ i l m. elim (dec_lt i hi) [
        | yes a ↦ u.near i l a
        | no b ↦ ap neighbours (last i m b) ∙ sym e
      ];
    }
  where
    same : (i : ℕ) → i ≤ hi + 1 → hi < i → i ≡ hi + 1
    same i m a = omega arith

    last : (i : ℕ) → i < hi + 1 → (i < hi → ⊥) → i ≡ hi
    last i m b = omega arith

pub run_stops : (found : List Bool) (lo hi : ℕ) → get_or found (hi + 1) false ≡ false → UpTo found lo hi → RunOf found lo hi
unfolding flagged
run_stops found lo hi e u =
    record { from = u.from; inside = u.inside; whole = run_whole (flagged found) lo hi u.from u.inside u.up u.near (is_down (λ h. e)) }

pub run_unlike : (found : List Bool) (lo hi : ℕ) → false ≡ neighbours hi → UpTo found lo hi → RunOf found lo hi
run_unlike found lo hi e u =
    record { from = u.from; inside = u.inside; whole = run_whole (flagged found) lo hi u.from u.inside u.up u.near (unlike (sym e)) }

pub run_ends : (found : List Bool) (lo hi : ℕ) → bytes - 1 ≤ hi → UpTo found lo hi → RunOf found lo (bytes - 1)
run_ends found lo hi h u =
    let e : hi ≡ bytes - 1 = omega (arith, u.inside) in
    rw (← e) (record { from = u.from; inside = u.inside; whole = run_whole (flagged found) lo hi u.from u.inside u.up u.near (is_down (λ g. absurd (omega arith))) })

-- ---- a run, as it is written

-- what stands behind the first name, if anything does
unfoldable pub run_tail : ℕ → ℕ → List ℕ
run_tail lo hi = cond (eqb lo hi) [] (45 ∷ byte_name hi)

pub run_all : (lo hi : ℕ) (s : List ℕ) (at : ℕ) → at + length (run_words lo hi) ≤ length s → Left (run_words lo hi) (space ∷ (byte_name lo ++ run_tail lo hi)) s s at at
unfolding run_name run_tail
run_all lo hi s at h = record { room = h; same = refl; ends = λ u end x. x }

module _ (lo hi : ℕ) {whole s t : List ℕ} {at₀ at : ℕ} where
  pub tail_none : lo ≡ hi → Left whole (run_tail lo hi) s t at₀ at → Writes whole s t at₀ at
  unfolding run_tail
  tail_none e l = left_none (left_as (rw (eq-eqb lo hi e) refl) l)

  pub tail_some : (lo ≡ hi → ⊥) → Left whole (run_tail lo hi) s t at₀ at → Left whole (45 ∷ byte_name hi) s t at₀ at
  unfolding run_tail
  tail_some n l = left_as (rw (ne_eqb lo hi n) refl) l

-- ---- the line of runs, as it is written

abbrev pub runs_line : List Bool → ℕ → List ℕ
runs_line found c = run_names (runs_from (flagged found) c) ++ (newline ∷ [])

pub line_start : (found : List Bool) (s : List ℕ) (at : ℕ) → at + length (tested_line (flagged found)) ≤ length s
    → Left (tested_line (flagged found)) (quoted "here could stand:" ++ runs_line found 0) s s at at
unfolding tested_line
line_start found s at h = record { room = h; same = refl; ends = λ u end x. x }

pub line_passed : (found : List Bool) {c r : ℕ} {whole s t : List ℕ} {at₀ at : ℕ} → NextUp found c (Some r) → Left whole (runs_line found c) s t at₀ at
    → Left whole (runs_line found r) s t at₀ at
line_passed found (up_at l h p e) k = left_as (ap (λ cs. run_names (runs cs) ++ (newline ∷ [])) p) k

-- the byte that was found
pub up_inside : {found : List Bool} {c r : ℕ} → NextUp found c (Some r) → (c ≤ r) × (r < bytes) × (flagged found r ≡ true)
up_inside (up_at l h p e) = (l, h, e)

line_run : (found : List Bool) (lo hi : ℕ) → RunOf found lo hi
    → runs_line found lo ≡ run_words lo hi ++ runs_line found (hi + 1)
unfolding run_names
line_run found lo hi r =
    ap (λ rs. run_names rs ++ (newline ∷ [])) r.whole ∙
    append_assoc (run_words lo hi) (run_names (runs_from (flagged found) (hi + 1))) (newline ∷ [])

module _ (found : List Bool) (lo hi : ℕ) {whole s t : List ℕ} {at₀ at : ℕ} where
  pub run_room : RunOf found lo hi → Left whole (runs_line found lo) s t at₀ at
      → at + length (run_words lo hi) ≤ length t
  run_room r l = left_room (run_words lo hi) (runs_line found (hi + 1)) (left_as (line_run found lo hi r) l)

  pub run_more : {u : List ℕ} {mid : ℕ} → RunOf found lo hi → Left whole (runs_line found lo) s t at₀ at
      → Writes (run_words lo hi) t u at mid → Left whole (runs_line found (hi + 1)) s u at₀ mid
  run_more r l a = left_step (run_words lo hi) (runs_line found (hi + 1)) (left_as (line_run found lo hi r) l) a

pub line_end : (found : List Bool) (c : ℕ) {whole s t : List ℕ} {at₀ at : ℕ} → NextUp found c None → Left whole (runs_line found c) s t at₀ at
    → Left whole (newline ∷ []) s t at₀ at
unfolding run_names runs
line_end found c (none_up p) l = left_as (ap (λ cs. run_names (runs cs) ++ (newline ∷ [])) p) l
