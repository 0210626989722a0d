-- What a byte is, as the code finds it: the bounds that were tested decide each test of the definitions.
use Rattle.std.specs.Prelude.{ℕ, zero, suc, ◌-◌, ◌<◌, ◌≤◌, ◌≡◌, refl, Bool, true, false, List, [], ◌∷◌, length, get_or, Some, None}
use Rattle.std.proofs.Common.{arith, sym, ne_eqb, le-leb}
use Rattle.std.proofs.Math.Decide.{dec_lt, dec_le}
use Rattle.std.proofs.Math.ListN.{get_or-eq_default}
use Rattle.std.proofs.lemmas.Bool.{lt-leb}
use Rattle.typed.specs.Spells.{between, bare, hex}
use Rattle.typed.specs.Lines.{digit}
use Rattle.names.specs.Bytes.{byte_at, starting, marking, found}

pub byte_inside : (text : List ℕ) (p : ℕ) → p < length text → get_or text p 0 ≡ byte_at text p
unfolding byte_at
byte_inside [] p h = absurd (omega arith)
byte_inside (c ∷ text) zero h = refl
byte_inside (c ∷ text) (suc p) h = byte_inside text p (omega arith)

pub byte_past : (text : List ℕ) (p : ℕ) → length text ≤ p → 10 ≡ byte_at text p
unfolding byte_at
byte_past text p h = sym (get_or-eq_default text 10 {n = p} h)

-- where a byte other than a newline is seen, the text goes on
pub byte_there : (text : List ℕ) (p : ℕ) → (byte_at text p ≡ 10 → ⊥) → p < length text
byte_there text p n = elim (dec_lt p (length text)) [ yes h ↦ h | no h ↦ absurd (n (sym (byte_past text p (omega arith)))) ]

-- ---- ranges

within : (lo hi c : ℕ) → lo ≤ c → c ≤ hi → between lo hi c ≡ true
unfolding between
within lo hi c l h = rw (le-leb lo c l, le-leb c hi h) refl

without : (lo hi c : ℕ) → (lo ≤ c → hi < c) → between lo hi c ≡ false
unfolding between
without lo hi c h = elim (dec_le lo c) [ yes l ↦ rw (le-leb lo c l, lt-leb c hi (h l)) refl | no l ↦ rw (lt-leb lo c (omega arith)) refl ]

-- ---- a byte that stands for itself

pub bare_digit : (c : ℕ) → 48 ≤ c → c ≤ 57 → true ≡ bare c
unfolding bare
bare_digit c l h = rw (without 65 90 c (omega arith), without 97 122 c (omega arith), within 48 57 c l h) refl

pub bare_capital : (c : ℕ) → 65 ≤ c → c ≤ 90 → true ≡ bare c
unfolding bare
bare_capital c l h = rw (within 65 90 c l h) refl

pub bare_small : (c : ℕ) → 97 ≤ c → c ≤ 122 → true ≡ bare c
unfolding bare
bare_small c l h = rw (without 65 90 c (omega arith), within 97 122 c l h) refl

pub bare_space : (c : ℕ) → c ≡ 32 → true ≡ bare c
unfolding bare between
bare_space c h = rw h refl

pub bare_no : (c : ℕ) → (c ≡ 32 → ⊥) → (48 ≤ c → 57 < c) → (65 ≤ c → 90 < c) → (97 ≤ c → 122 < c) → false ≡ bare c
unfolding bare
bare_no c s d b a = rw (without 65 90 c b, without 97 122 c a, without 48 57 c d, without 32 32 c (omega arith)) refl

-- ---- a digit's value

pub hex_digit : (c : ℕ) → 48 ≤ c → c ≤ 57 → Some (c - 48) ≡ found (hex c)
unfolding hex
hex_digit c l h = rw (within 48 57 c l h) refl

pub hex_capital : (c : ℕ) → 65 ≤ c → c ≤ 70 → Some (c - 55) ≡ found (hex c)
unfolding hex
hex_capital c l h = rw (without 48 57 c (omega arith), within 65 70 c l h) refl

pub hex_small : (c : ℕ) → 97 ≤ c → c ≤ 102 → Some (c - 87) ≡ found (hex c)
unfolding hex
hex_small c l h = rw (without 48 57 c (omega arith), without 65 70 c (omega arith), within 97 102 c l h) refl

pub hex_no : (c : ℕ) → (48 ≤ c → 57 < c) → (65 ≤ c → 70 < c) → (97 ≤ c → 102 < c) → None ≡ found (hex c)
unfolding hex
hex_no c d b a = rw (without 48 57 c d, without 65 70 c b, without 97 102 c a) refl

pub digit_yes : (c : ℕ) → 48 ≤ c → c ≤ 57 → Some (c - 48) ≡ found (digit c)
unfolding digit
digit_yes c l h = rw (within 48 57 c l h) refl

pub digit_no : (c : ℕ) → (48 ≤ c → 57 < c) → None ≡ found (digit c)
unfolding digit
digit_no c d = rw (without 48 57 c d) refl

-- ---- an atom's first byte, and a mark

pub starting_round : (c : ℕ) → c ≡ 40 → true ≡ starting c
unfolding starting
starting_round c h = rw h refl

pub starting_angle : (c : ℕ) → c ≡ 60 → true ≡ starting c
unfolding starting
starting_angle c h = rw h refl

pub starting_slash : (c : ℕ) → c ≡ 92 → true ≡ starting c
unfolding starting
starting_slash c h = rw h refl

pub starting_dot : (c : ℕ) → c ≡ 46 → true ≡ starting c
unfolding starting
starting_dot c h = rw h refl

pub starting_bare : (c : ℕ) (b : Bool) → (c ≡ 40 → ⊥) → (c ≡ 60 → ⊥) → (c ≡ 92 → ⊥) → (c ≡ 46 → ⊥) → b ≡ bare c → b ≡ starting c
unfolding starting
starting_bare c b h i j k e = rw (ne_eqb c 40 h, ne_eqb c 60 i, ne_eqb c 92 j, ne_eqb c 46 k) e

pub marking_many : (c : ℕ) → c ≡ 42 → true ≡ marking c
unfolding marking
marking_many c h = rw h refl

pub marking_more : (c : ℕ) → c ≡ 43 → true ≡ marking c
unfolding marking
marking_more c h = rw h refl

pub marking_perhaps : (c : ℕ) → c ≡ 63 → true ≡ marking c
unfolding marking
marking_perhaps c h = rw h refl

pub marking_no : (c : ℕ) → (c ≡ 42 → ⊥) → (c ≡ 43 → ⊥) → (c ≡ 63 → ⊥) → false ≡ marking c
unfolding marking
marking_no c h i j = rw (ne_eqb c 42 h, ne_eqb c 43 i, ne_eqb c 63 j) refl
