-- Laws of decimal digits: a number's digits by those of its tenth part, and how many there are, so that room for a line can be planned.
-- The code finds them from the last to the first; what it has found on the way is `Found`.
use Rattle.std.specs.Prelude.{ℕ, zero, suc, ◌+◌, ◌-◌, ◌/◌, ◌%◌, ◌^◌, ◌<◌, ◌≤◌, ◌≡◌, refl, List, [], ◌∷◌, ◌++◌, length, drop, set}
use Rattle.std.proofs.Common.{pow-suc, div-lt_iff_lt-mul, arith, sym, ap, ◌∙◌, append_assoc, append-nil, length-append, length-drop, length-set, drop_of_length-le, get_or-set_same, drop-set-lt, lt-ltb, le-ltb}
use Rattle.std.proofs.Math.Decide.{dec_lt}
use Rattle.number.specs.Lists.{drop_one}
use Rattle.lines.specs.Digits.{digit, digits_by, decimal}

-- spare turns change nothing
digits_alike : (j k n : ℕ) → n ≤ j → n ≤ k → digits_by j n ≡ digits_by k n
unfolding digits_by
digits_alike zero zero n h g = refl
digits_alike zero (suc k) n h g = let low : n < 10 = omega arith in simp (lt-ltb n 10 low)
digits_alike (suc j) zero n h g = let low : n < 10 = omega arith in simp (lt-ltb n 10 low)
digits_alike (suc j) (suc k) n h g =
    elim (dec_lt n 10) [
      | yes low ↦ simp (lt-ltb n 10 low)
      | no high ↦
          let some : 10 ≤ n = omega arith in
          let rest : digits_by j (n / 10) ≡ digits_by k (n / 10) = digits_alike j k (n / 10) (omega arith) (omega arith) in
          simp (le-ltb n 10 some, rest)
    ]

pub decimal_low : (n : ℕ) → n < 10 → decimal n ≡ digit n ∷ []
unfolding decimal digits_by
decimal_low n h =
    let turn : digits_by n n ≡ digits_by (suc n) n = digits_alike n (suc n) n (omega arith) (omega arith) in
    turn ∙ simp (lt-ltb n 10 h)

pub decimal_high : (n : ℕ) → 10 ≤ n → decimal n ≡ decimal (n / 10) ++ (digit (n % 10) ∷ [])
unfolding decimal digits_by
decimal_high n h =
    let turn : digits_by n n ≡ digits_by (suc n) n = digits_alike n (suc n) n (omega arith) (omega arith) in
    let rest : digits_by n (n / 10) ≡ digits_by (n / 10) (n / 10) = digits_alike n (n / 10) (n / 10) (omega arith) (omega arith) in
    turn ∙ simp (le-ltb n 10 h, rest)

-- one digit more than the tenth part has; at least one
decimal_step : (n : ℕ) → 10 ≤ n → length (decimal n) ≡ length (decimal (n / 10)) + 1
decimal_step n h = rw (decimal_high n h) (simp length-append)

decimal_some : (n : ℕ) → n < 10 → length (decimal n) ≡ 1
decimal_some n h = rw (decimal_low n h) refl

-- so many digits hold every number below that power of ten
pub decimal_most : (k n : ℕ) → n < 10 ^ suc k → length (decimal n) ≤ suc k
decimal_most zero n h = rw (decimal_low n h) (omega arith)
decimal_most (suc k) n h =
    elim (dec_lt n 10) [
      | yes low ↦ rw (decimal_low n low) (omega arith)
      | no high ↦
          let some : 10 ≤ n = omega arith in
          let less : n / 10 < 10 ^ suc k = (div-lt_iff_lt-mul {k = 10} {x = n} {y = 10 ^ suc k} (omega arith)).1 (rw (pow-suc 10 (suc k)) at h) in
          rw (decimal_high n some) (simp length-append (omega (arith, decimal_most k (n / 10) less)))
    ]

-- ---- digits from the last to the first

-- the digits of a number that was divided so far: those of the rest, and then those that stand in twenty cells from a place on
pub record Found (n rest : ℕ) (cells : List ℕ) (from : ℕ) : Type 0 where
  pub small : n < 2 ^ 64
  pub twenty : length cells ≡ 20
  pub inside : from ≤ 20
  pub digits : decimal n ≡ decimal rest ++ drop from cells

pub found_none : (n : ℕ) (cells : List ℕ) → n < 2 ^ 64 → length cells ≡ 20 → Found n n cells 20
found_none n cells h e =
    let none : drop 20 cells ≡ [] = drop_of_length-le cells {i = 20} (omega (arith, e)) in
    record { small = h; twenty = e; inside = omega arith; digits = rw none (sym (append-nil (decimal n))) }

decimal_any : (n : ℕ) → 0 < length (decimal n)
decimal_any n =
    elim (dec_lt n 10) [
      | yes low ↦ omega (arith, decimal_some n low)
      | no high ↦ omega (arith, decimal_step n (omega arith))
    ]

-- one store before the others
stored_before : (cells : List ℕ) (from d : ℕ) → 0 < from → from ≤ length cells → drop (from - 1) (set cells (from - 1) d) ≡ d ∷ drop from cells
stored_before cells from d some h =
    let here : from - 1 + 1 ≡ from = omega arith in
    drop_one (set cells (from - 1) d) (from - 1) (rw length-set (omega arith))
    ∙ rw (get_or-set_same cells (from - 1) d 0 (omega arith), drop-set-lt (from - 1 + 1) cells (from - 1) d (omega arith), here) refl

module _ {n rest : ℕ} {cells : List ℕ} {from : ℕ} (f : Found n rest cells from) where
  pub found_room : 0 < from
  found_room =
      let lengths : length (decimal n) ≡ length (decimal rest) + (length cells - from) = ap length f.digits ∙ simp (length-append, length-drop) in
      omega (arith, lengths, f.twenty, f.inside, decimal_any rest, decimal_most 19 n (omega (arith, f.small)))

  pub found_more : (d : ℕ) → 10 ≤ rest → d ≡ digit (rest % 10) → Found n (rest / 10) (set cells (from - 1) d) (from - 1)
  found_more d high e = record {
    small = f.small;
    twenty = rw length-set f.twenty;
    inside = omega (arith, f.inside);
    digits =
        f.digits
        ∙ rw (stored_before cells from d found_room (omega (arith, f.twenty, f.inside)), decimal_high rest high, e)
        (append_assoc (decimal (rest / 10)) (digit (rest % 10) ∷ []) (drop from cells));
  }

  pub found_all : (d : ℕ) → rest < 10 → d ≡ digit rest → drop (from - 1) (set cells (from - 1) d) ≡ decimal n
  found_all d low e =
      rw (stored_before cells from d found_room (omega (arith, f.twenty, f.inside)), e)
      (sym (f.digits ∙ rw (decimal_low rest low) refl))
