-- One lemma for every definition that branches with `cond`: what holds of each arm holds of the whole.
-- It spares each proof its own case split on the test; the arm is told how the test went.
use Rattle.std.specs.Prelude.{◌≡◌, refl, Bool, true, false, cond}

pub by_cond : {A : Type 0} (P : A → Type 0) (test : Bool) {x y : A} → (test ≡ true → P x) → (test ≡ false → P y) → P (cond test x y)
by_cond P true f g = f refl
by_cond P false f g = g refl
