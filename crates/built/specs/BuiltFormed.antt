-- A built table is well formed, so its sheet reads back to it: what the build leaves can be cut by, written and compared.
-- Labels are at most the number of rules, and each byte leads to a state that was found.
use Rattle.std.specs.Prelude.{ℕ, suc, ◌+◌, ◌*◌, ◌/◌, ◌%◌, ◌<◌, ◌≤◌, ◌≡◌, refl, Bool, true, false, cond, List, [], ◌∷◌, length, get_or}
use Rattle.std.proofs.Common.{ap, ◌∙◌, arith}
use Rattle.std.proofs.lemmas.List.{length-map}
use Rattle.number.specs.Limits.{bytes, rules}
use Rattle.number.specs.Refused.Outcome.{gives}
use Rattle.meaning.specs.Re.{Re, Text}
use Rattle.meaning.specs.Normal.{normal}
use Rattle.meaning.specs.Derive.{nullable, deriv}
use Rattle.meaning.specs.Rules.{label_from, label, derive_all, derive_by, start}
use Rattle.table.specs.Table.{Table}
use Rattle.table.specs.Formed.{Formed}
use Rattle.walk.specs.Walk.{Item, Held}
use Rattle.walk.specs.StepLaws.{item, count}
use Rattle.walk.specs.Explored.{Explored, walk_explores}
use Rattle.built.specs.Build.{alone, table_of, build_rules}
use Rattle.built.specs.BuildLaws.{built, label_item}

-- a label is at most the number of rules
pub label_most : (i : ℕ) (rs : List Re) → label_from i rs ≤ i + length rs
unfolding label_from
label_most i [] = omega arith
label_most i (r ∷ rs) = go (nullable r) (label_most (suc i) rs)
  where
    go : (b : Bool) → label_from (suc i) rs ≤ suc i + length rs → cond b (suc i) (label_from (suc i) rs) ≤ i + suc (length rs)
    go true h = omega arith
    go false h = omega arith

-- deriving keeps the number of terms
length_derived : (v : List Re) (w : Text) → length (derive_by v w) ≡ length v
length_derived v [] = refl
length_derived v (c ∷ w) = length_derived (derive_all c v) w ∙ length-map v (deriv c)

module _ (rs : List Re) (h : Held) (js : List ℕ) (x : Explored alone rs h js) (small : length rs ≤ rules) where
  labels_small : (i : ℕ) → i < count h → label (item h i).vector ≤ rules
  labels_small i l =
      let v = (x.good.led i l).vector_is in
      let n : length (item h i).vector ≡ length rs = ap length v ∙ length_derived (start rs) (item h i).text ∙ length-map rs normal in
      omega (arith, label_most 0 (item h i).vector)

  targets_inside : (i : ℕ) → i < length js → get_or js i 0 < count h
  targets_inside i l =
      let p : i / bytes < count h = omega (arith, x.many) in
      let q : i % bytes < bytes = omega arith in
      let e : i / bytes * bytes + i % bytes ≡ i = omega arith in
      rw e at (x.leads (i / bytes) (i % bytes) p q).inside

  formed_table : Formed (table_of h js)
  formed_table = record {
    some = x.good.some;
    most = x.good.few;
    labelled = length-map h.items (λ y. label y.vector);
    filled = x.many;
    label = λ i l. rw (label_item h js i) (labels_small i (omega (arith, length-map h.items (λ (y : Item). label y.vector))));
    target = targets_inside;
  }

pub built_formed : (rs : List Re) (t : Table) → length rs ≤ rules → build_rules rs ≡ gives t → Formed t
built_formed rs t small e =
    let m = built rs t e in
    rw m.table_is (formed_table rs m.held m.numbers (walk_explores alone rs m.held m.numbers m.walks) small)
