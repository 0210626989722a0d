-- `is_pair` tells whether an item has a sheet state and a vector: so far every place passed has the same number in both.
-- A place that differs shows that the vectors do.
use Rattle.std.proofs.Common.{ℕ, ◌≡◌, ◌+◌, ◌*◌, ◌<◌, List, arith, refl, ap, sym, ◌∙◌, below_more, ext_get_or, get_or-take, get_or-drop, length-drop, length-take-le}
use Rattle.std.specs.Prelude.{length, get_or, drop}
use Rattle.number.specs.Limits.{rules}
use Rattle.meaning.specs.Tests.{clash}
use Rattle.vector.specs.Layout.{vectors_at}
use Rattle.vector.specs.Memory.{numbers_at}
use Rattle.vector.proofs.is_pair.Goals as goal

-- the number of an item at a place
at_place : (s : List ℕ) (k i : ℕ) → i < rules → get_or (numbers_at s k) i 0 ≡ get_or s (vectors_at + k * rules + i) 0
at_place s k i h = get_or-take rules (drop (vectors_at + k * rules) s) i 0 h ∙ get_or-drop (vectors_at + k * rules) s i 0

pub returns-then-cells-k-2 : goal.returns-then-cells-k-2
returns-then-cells-k-2 c =
    record {
      equal = λ e. absurd (clash e refl);
      told = λ p.
          absurd (c.if-cells-k-2.true (
          sym (at_place c.args.cells.now c.args.k c.loop-place.place (omega arith)) ∙ ap (λ (l : List ℕ). get_or l c.loop-place.place 0) p.same_numbers));
    }

pub loop-place-preserved : goal.loop-place-preserved
loop-place-preserved c = (
  c.loop-place.invariant.0,
  below_more _ _ c.loop-place.invariant.1 (at_place c.args.cells.now c.args.k c.loop-place.place (omega arith) ∙ c.if-cells-k-2.false),
)

pub returns : goal.returns
returns c =
    let at : ℕ = vectors_at + c.args.k * rules in
    let l : length (numbers_at c.args.cells.now c.args.k) ≡ rules =
    length-take-le rules (drop at c.args.cells.now) (omega (arith, length-drop at c.args.cells.now, c.requires.long, c.requires.few)) in
    record {
      equal = λ _. record {
        same_sheet = c.if-cells-k.false;
        same_numbers = ext_get_or 0 _ _ (omega (arith, l, c.loop-place.invariant.0)) (λ j h. c.loop-place.invariant.1 j (omega (arith, l, h)));
      };
      told = λ _. refl;
    }
