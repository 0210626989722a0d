-- Laws of the number told for a pair in the work area, one for each return of the code.
-- Where the start was met again is found by looking for it among the items.
use Rattle.std.specs.Prelude.{ℕ, ◌-◌, ◌<◌, ◌≡◌, refl, Option, unwrap_or, List, get_or}
use Rattle.std.proofs.Common.{sym, ap, ◌∙◌, arith}
use Rattle.walk.specs.Walk.{Item, none, number_in}
use Rattle.vector.specs.Memory.{numbers_at, item_of, items_of}
use Rattle.vector.specs.Promises.{Finds}
use Rattle.vector.specs.MemoryLaws.{items_at, found_number}
use Rattle.verdict.specs.Compare.{start_pair, told_by, number_told}
use Rattle.verdict.specs.NumberLaws.{at_start, behind_start, before_start}
use Rattle.pair.specs.Promises.{Numbered}

module _ (s : List ℕ) (n m i : ℕ) (ok : Numbered s n m i) (v : List ℕ) (loaded : v ≡ numbers_at s 0) (r : Option ℕ) (finds : Finds s m 1 v r) where
  -- where the start was met again, or the count of the items
  abbrev back : ℕ
  back = unwrap_or r m

  number : back ≡ number_in (items_of s n m) (start_pair (items_of s n m))
  number =
      let o : 0 < m = omega (arith, ok.inside) in
      let first : get_or (items_of s n m) 0 none ≡ item_of s n 0 = items_at s n m 0 o in
      found_number s n ok.top m 1 v r ok.kept (rw loaded (ok.kept.numbers 0 o)) finds (start_pair (items_of s n m)) refl
      (ap (λ (x : Item). x.vector) first ∙ rw loaded refl)

  as_told : told_by back i ≡ number_told (items_of s n m) i
  as_told = ap (λ (x : ℕ). told_by x i) number

  pub told_start : back ≡ i → 0 ≡ number_told (items_of s n m) i
  told_start e = sym (at_start back i e) ∙ as_told

  pub told_behind : back < i → i - 1 ≡ number_told (items_of s n m) i
  told_behind l = sym (behind_start back i l) ∙ as_told

  pub told_before : i < back → i ≡ number_told (items_of s n m) i
  told_before l = sym (before_start back i l) ∙ as_told
