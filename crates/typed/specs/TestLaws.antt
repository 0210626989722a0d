-- What the tests that the readers ask say: a byte in a range, two tests that fail together, an answer that is none.
-- Nothing here knows of rules; it adds to the laws of tests in meaning.
use Rattle.std.specs.Prelude.{ℕ, ◌≤◌, ◌≡◌, refl, Bool, true, false, ◌&&◌, ◌||◌, T, leb}
use Rattle.std.proofs.Common.{arith, leb-true, le-leb}
use Rattle.std.proofs.Math.Option.Option.{none, some}
use Rattle.meaning.specs.Tests.{clash, and_true, true_and}
use Rattle.typed.specs.Spells.{between}

pub between_true : (lo hi c : ℕ) → between lo hi c ≡ true → (lo ≤ c) × (c ≤ hi)
unfolding between
between_true lo hi c h = let k = and_true (leb lo c) (leb c hi) h in (leb-true lo c k.0, leb-true c hi k.1)

pub true_between : (lo hi c : ℕ) → lo ≤ c → c ≤ hi → between lo hi c ≡ true
unfolding between
true_between lo hi c l h = true_and (le-leb lo c l) (le-leb c hi h)

pub or_false : (a b : Bool) → a || b ≡ false → (a ≡ false) × (b ≡ false)
or_false true b h = absurd (clash refl h)
or_false false b h = (refl, h)

pub both_hold : (a b : Bool) → T (a && b) → T a × T b
both_hold true b p = (tt, p)
both_hold false b p = absurd p

pub none_some : {A : Type 0} {x : A} → none ≡ some x → ⊥
none_some e = let z : ◌≡◌ {A = ℕ} 0 1 = cc in omega arith
