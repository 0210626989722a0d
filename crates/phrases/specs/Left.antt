-- A list that is being written, with what is left of it: parts are taken off its front as they are written, by calls or by a loop.
-- Room for the whole is room for each part, and when the last part is written the whole is.
use Rattle.std.specs.Prelude.{ℕ, ◌+◌, ◌≤◌, ◌<◌, ◌≡◌, refl, List, [], ◌∷◌, ◌++◌, length}
use Rattle.std.proofs.Common.{arith, subst, length-append}
use Rattle.number.specs.Lists.{written_length, Writes, writes_none, writes_then}

-- of `whole`, written from at₀ on, `rest` is left to be written at `at`
pub record Left (whole rest before now : List ℕ) (at₀ at : ℕ) : Type 0 where
  pub room : at + length rest ≤ length now
  pub same : length now ≡ length before
  pub ends : (u : List ℕ) (end : ℕ) → Writes rest now u at end → Writes whole before u at₀ end

pub left_all : (w s : List ℕ) (at : ℕ) → at + length w ≤ length s → Left w w s s at at
left_all w s at h = record { room = h; same = refl; ends = λ u end x. x }

-- the rest under another form
pub left_as : {whole rest rest' s t : List ℕ} {at₀ at : ℕ} → rest ≡ rest' → Left whole rest s t at₀ at → Left whole rest' s t at₀ at
left_as {whole} {rest} {rest'} {s} {t} {at₀} {at} e l = subst (λ r. Left whole r s t at₀ at) e l

pub left_room : (v rest : List ℕ) {whole s t : List ℕ} {at₀ at : ℕ} → Left whole (v ++ rest) s t at₀ at → at + length v ≤ length t
left_room v rest l = omega (arith, l.room, length-append v rest)

pub kept_length : {v t u : List ℕ} {at mid : ℕ} → at + length v ≤ length t → Writes v t u at mid → length u ≡ length t
kept_length {v} {t} {u} {at} h a = rw a.out (written_length t at v h)

pub left_step : (v rest : List ℕ) {whole s t u : List ℕ} {at₀ at mid : ℕ} → Left whole (v ++ rest) s t at₀ at → Writes v t u at mid
    → Left whole rest s u at₀ mid
left_step v rest {t = t} {at = at} l a =
    let h : at + length v ≤ length t = left_room v rest l in
    record {
      room = omega (arith, l.room, length-append v rest, a.place, kept_length h a);
      same = omega (arith, kept_length h a, l.same);
      ends = λ x end b. l.ends x end (writes_then (omega arith) a b);
    }

-- one byte
pub left_byte : {whole rest s t u : List ℕ} {at₀ at mid : ℕ} {c : ℕ} → Left whole (c ∷ rest) s t at₀ at → Writes (c ∷ []) t u at mid
    → Left whole rest s u at₀ mid
left_byte {rest = rest} {c = c} l a = left_step (c ∷ []) rest l a

pub left_some : {whole rest s t : List ℕ} {at₀ at : ℕ} {c : ℕ} → Left whole (c ∷ rest) s t at₀ at → at < length t
left_some l = omega (arith, l.room)

pub left_last : {whole rest s t u : List ℕ} {at₀ at end : ℕ} → Left whole rest s t at₀ at → Writes rest t u at end → Writes whole s u at₀ end
left_last l a = l.ends _ _ a

pub left_none : {whole s t : List ℕ} {at₀ at : ℕ} → Left whole [] s t at₀ at → Writes whole s t at₀ at
left_none {t = t} {at = at} l = l.ends _ _ (writes_none t at)
