-- The grammar of expressions, apart from any reader: which bytes spell which expression, where so many parentheses may still be opened.
-- A choice binds weakest, then a sequence, then the marks * + ? after an atom, any number of them; sequences and choices group from the left.
use Rattle.std.specs.Prelude.{ℕ, suc, ◌+◌, ◌*◌, ◌-◌, ◌≡◌, Bool, true, cond, ◌&&◌, ◌||◌, [], ◌∷◌, ◌++◌, leb}
use Rattle.std.proofs.Math.Option.{Option}
use Rattle.std.proofs.Math.Option.Option.{none, some}
use Rattle.meaning.specs.Re.{Text}
use Rattle.typed.specs.Sets.{Set, named}
use Rattle.typed.specs.Exp.{Exp}
use Rattle.typed.specs.Exp.Exp.{byte, dot, set, empty, cat, alt, star, plus, maybe}

unfoldable pub between : ℕ → ℕ → ℕ → Bool
between lo hi c = leb lo c && leb c hi

-- a letter A to Z or a to z, a digit, a space
unfoldable pub bare : ℕ → Bool
unfolding between
bare c = between 65 90 c || (between 97 122 c || (between 48 57 c || between 32 32 c))

-- the value of a hex digit, 0 to 9, A to F or a to f
unfoldable pub hex : ℕ → Option ℕ
unfolding between
hex c =
    cond (between 48 57 c) (some (c - 48))
    (cond (between 65 70 c) (some (c - 55)) (cond (between 97 102 c) (some (c - 87)) none))

pub data Part : Type 0 where
  atom : Part
  item : Part
  sequence : Part
  choice : Part

pub data Spells : Part → ℕ → Text → Exp → Type 0 where
  -- a letter, a digit or a space for itself; \hh; .; <name>; (); (choice)
  itself : {n c : ℕ} → bare c ≡ true → Spells atom n (c ∷ []) (byte c)
  escaped : {n g h x y : ℕ} → hex g ≡ some x → hex h ≡ some y → Spells atom n (92 ∷ g ∷ h ∷ []) (byte (x * 16 + y))
  dotted : {n : ℕ} → Spells atom n (46 ∷ []) dot
  among : {n : ℕ} (s : Set) → Spells atom n (60 ∷ named s) (set s)
  hollow : {n : ℕ} → Spells atom (suc n) (40 ∷ 41 ∷ []) empty
  grouped : {n : ℕ} {w : Text} {e : Exp} → Spells choice n w e → Spells atom (suc n) (40 ∷ (w ++ (41 ∷ []))) e
  -- an atom, then * or + or ? after an item
  unmarked : {n : ℕ} {w : Text} {e : Exp} → Spells atom n w e → Spells item n w e
  starred : {n : ℕ} {w : Text} {e : Exp} → Spells item n w e → Spells item n (w ++ (42 ∷ [])) (star e)
  plussed : {n : ℕ} {w : Text} {e : Exp} → Spells item n w e → Spells item n (w ++ (43 ∷ [])) (plus e)
  optional : {n : ℕ} {w : Text} {e : Exp} → Spells item n w e → Spells item n (w ++ (63 ∷ [])) (maybe e)
  -- an item, then an item after a sequence
  alone : {n : ℕ} {w : Text} {e : Exp} → Spells item n w e → Spells sequence n w e
  next : {n : ℕ} {v w : Text} {a b : Exp} → Spells sequence n v a → Spells item n w b → Spells sequence n (v ++ w) (cat a b)
  -- a sequence, then | and a sequence after a choice
  only : {n : ℕ} {w : Text} {e : Exp} → Spells sequence n w e → Spells choice n w e
  or : {n : ℕ} {v w : Text} {a b : Exp} → Spells choice n v a → Spells sequence n w b → Spells choice n (v ++ (124 ∷ w)) (alt a b)
