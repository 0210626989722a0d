-- Laws of a walk's beginning, one for each return of the code: vector 0 is too long, or the walk comes to it with nothing held.
-- Both hold whatever the walk's way.
use Rattle.std.specs.Prelude.{ℕ, ◌≡◌, List, length, Result, Err}
use Rattle.std.proofs.Common.{sym, ap, subst, ◌∙◌}
use Rattle.number.specs.declared.Refusal.{Refusal}
use Rattle.number.specs.declared.Refusal.TheVariants.{Long}
use Rattle.walk.specs.Vectors.{Vector}
use Rattle.walk.specs.Vectors.Vector.{TooLong, Terms}
use Rattle.walk.specs.Walk.{Step, begin_by}
use Rattle.vector.specs.Vectors.{vector_of}
use Rattle.steps.specs.declared.Reached.{Reached}
use Rattle.steps.specs.Step.{Begins, Comes}
use Rattle.start.specs.Start.{Enters}

module _ {u : Vector} {n : ℕ} {s s₁ : List ℕ} (same : length s₁ ≡ length s) where
  pub enters_long : u ≡ TooLong → Enters u n s s₁ (Err (Long 0))
  enters_long e = record { enters = λ way m o. record { same_length = same; comes = ap (begin_by way) e } }

  pub enters_first : {v s' : List ℕ} {r : Result Reached Refusal} → u ≡ Terms (vector_of s₁ n v) → Begins s₁ n v s' r → Enters u n s s' r
  enters_first {v} {s'} {r} e x = record {
    enters = λ way m o.
        let y = x.begins way m o in
        record {
          same_length = y.same_length ∙ same;
          comes = subst (λ (w : Step). Comes s' n 0 way.limit w r) (sym (ap (begin_by way) e)) y.comes;
        };
  }
