-- Where a run of one target ends, by the first of the targets behind its start that is another.
use Rattle.std.specs.Prelude.{ℕ, ◌+◌, ◌-◌, ◌<◌, ◌≤◌, ◌≡◌, List, length, get_or}
use Rattle.std.specs.List.{AllWithin, HoldsAt, between}
use Rattle.std.proofs.Common.{arith, sym, ap, ◌∙◌}
use Rattle.std.proofs.lemmas.List.Edits.{length-between, get_or-between}
use native.Mathlib.Decide.{dec_le}
use Rattle.table.specs.Promises.{RunTo}

module _ (targets : List ℕ) (from end : ℕ) (some : from < end) (room : end ≤ length targets) where
  -- the targets behind the start, up to a place
  run_alike : (n : ℕ) → n ≤ end - (from + 1) → AllWithin (λ x. x ≡ get_or targets from 0) (between (from + 1) end targets) 0 n
      → (d : ℕ) → from ≤ d → d < from + 1 + n → get_or targets d 0 ≡ get_or targets from 0
  run_alike n h a d k l =
      elim (dec_le d from) [
        | yes m ↦ let e : d ≡ from = omega arith in ap (λ i. get_or targets i 0) e
        | no m ↦
            let i : ℕ = d - (from + 1) in
            let e : from + 1 + i ≡ d = omega arith in
            ap (λ j. get_or targets j 0) (sym e)
            ∙ sym (get_or-between targets (from + 1) end i 0 (omega arith))
            ∙ a i 0 (omega arith) (omega arith)
      ]

  pub run_stops : (more : ℕ)
      → (more < length (between (from + 1) end targets)) × HoldsAt (λ x. x ≡ get_or targets from 0 → ⊥) (between (from + 1) end targets) more
      × AllWithin (λ x. x ≡ get_or targets from 0) (between (from + 1) end targets) 0 more
      → RunTo targets from end (from + 1 + more)
  run_stops more h =
      let size : length (between (from + 1) end targets) ≡ end - (from + 1) = length-between targets (from + 1) end room in
      record {
        onward = omega arith;
        within = omega (arith, h.0);
        alike = run_alike more (omega (arith, h.0)) h.2;
        other = λ l e. h.1 0 (get_or-between targets (from + 1) end more 0 (omega arith) ∙ e);
      }

  pub run_whole : AllWithin (λ x. x ≡ get_or targets from 0) (between (from + 1) end targets) 0 (length (between (from + 1) end targets))
      → RunTo targets from end end
  run_whole a =
      let size : length (between (from + 1) end targets) ≡ end - (from + 1) = length-between targets (from + 1) end room in
      record {
        onward = some;
        within = omega arith;
        alike = λ d k l. run_alike (end - (from + 1)) (omega arith) (λ i e m n. a i e m (omega arith)) d k (omega arith);
        other = λ l. absurd (omega arith);
      }
