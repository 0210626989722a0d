-- Laws of the whole walk beside a table, one for each return of the code: it starts at the book's vector 0 and goes row by row.
-- What the rows come to is what the book's rules come to beside the table.
use Rattle.std.specs.Prelude.{ℕ, ◌≡◌, refl, List, Result, Ok, Err}
use Rattle.std.proofs.Common.{sym, ap, subst, ◌∙◌, arith}
use Rattle.number.specs.declared.Refusal.{Refusal}
use Rattle.walk.specs.Vectors.{normalised}
use Rattle.walk.specs.Walk.{Step, Walked, rows, begin_by, on_from, walk_from}
use Rattle.vector.specs.Layout.{items}
use Rattle.vector.specs.Memory.{held_of}
use Rattle.steps.specs.declared.Extent.{Extent}
use Rattle.steps.specs.declared.Reached.{Reached}
use Rattle.steps.specs.Step.{Steps, Comes, Went}
use Rattle.start.specs.Start.{rules_in, Enters}
use Rattle.pairs.specs.Promises.{by_targets, HasRow, Beside, Ends}
use Rattle.pairs.specs.BesideLaws.{beside_first}

module _ (targets file : List ℕ) (n : ℕ) (s s₁ : List ℕ) (x : Result Reached Refusal) (enters : Enters (normalised (rules_in file)) n s s₁ x) where
  abbrev first : Step
  first = begin_by (by_targets targets) (normalised (rules_in file))

  begun : Steps s n 0 items s₁ first x
  begun = enters.enters (by_targets targets) (omega arith) refl

  as_first : walk_from (by_targets targets) (rules_in file) ≡ on_from (by_targets targets) first
  unfolding walk_from
  as_first = refl

  pub walk_stops : (q : Refusal) → x ≡ Err q → Ends n targets s₁ (walk_from (by_targets targets) (rules_in file)) (Err q)
  walk_stops q e =
      as_first ∙ ap (on_from (by_targets targets)) (subst (Comes s₁ n 0 items first) e begun.comes)

  module _ (y : Reached) (e : x ≡ Ok y) where
    went : Went s₁ n 0 items y.held.top y.held.count y.number first
    went = subst (Comes s₁ n 0 items first) e begun.comes

    pub walk_beside : HasRow targets 0 → Beside s₁ n y.held.top y.held.count targets
    walk_beside some = beside_first targets (normalised (rules_in file)) s₁ n y.held.top y.held.count y.number some went

    pub walk_ends : (s₂ : List ℕ) (z : Result Extent Refusal) → Ends n targets s₂ (rows (by_targets targets) items 0 (held_of s₁ n y.held.top y.held.count)) z
        → Ends n targets s₂ (walk_from (by_targets targets) (rules_in file)) z
    walk_ends s₂ z r =
        subst (λ (w : Walked). Ends n targets s₂ w z) (sym (as_first ∙ ap (on_from (by_targets targets)) went.goes)) r
