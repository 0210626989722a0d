-- A built table is right: after every text of bytes its label is the one that names the text by the book's rules.
-- So a cut by a built table is the cut by the textbook: every word longest, under the earliest rule, and stuck exactly.
use Rattle.std.specs.Prelude.{ℕ, ◌≡◌, refl, List, take}
use Rattle.std.proofs.Common.{sym, ap, subst, ◌∙◌, arith}
use Rattle.std.proofs.Math.ListN.{get_or-map}
use Rattle.number.specs.declared.Refusal.{Refusal}
use Rattle.number.specs.Numbers.{Bytes}
use Rattle.number.specs.Refused.{Outcome}
use Rattle.number.specs.Refused.Outcome.{gives, refuses}
use Rattle.meaning.specs.Re.{Re, Text}
use Rattle.meaning.specs.Rules.{Names, label_from, label, label_after}
use Rattle.meaning.proofs.RulesMean.{names_after}
use Rattle.meaning.specs.Words.{Found, FirstWord, reach}
use Rattle.meaning.proofs.WordsMean.{first_alike}
use Rattle.table.specs.Table.{Table}
use Rattle.cutting.specs.Steps.{label_at, label_of, Labels, FirstBy, first_by}
use Rattle.cutting.specs.Cut.{Cuts, cut_by}
use Rattle.cutting.specs.CutLaws.{by_table, cut_is, cut_alike, bytes_take, bytes_drop}
use Rattle.walk.specs.Walk.{Item, none, Held, Walked, walk_from}
use Rattle.walk.specs.Walk.Walked.{halted, walked}
use Rattle.walk.specs.StepLaws.{item}
use Rattle.walk.specs.WalkLaws.{target}
use Rattle.walk.specs.Explored.{walk_explores, arrived}
use Rattle.built.specs.Build.{alone, table_of, built_of, build_rules}

-- the label of item j, read off the labels
pub label_item : (h : Held) (js : List ℕ) (j : ℕ) → label_at (table_of h js) j ≡ label (item h j).vector
unfolding label_from
label_item h js j = get_or-map (λ (x : Item). label x.vector) h.items j none

-- what a build that succeeds was made from
pub record Built (rs : List Re) (t : Table) : Type 0 where
  pub held : Held
  pub numbers : List ℕ
  pub walks : walk_from alone rs ≡ walked held numbers
  pub table_is : t ≡ table_of held numbers

gives_table : {t u : Table} → ◌≡◌ {A = Outcome Table} (gives t) (gives u) → t ≡ u
gives_table e = cc

no_table : {r : Refusal} {t : Table} → ◌≡◌ {A = Outcome Table} (refuses r) (gives t) → ⊥
no_table e = let z : ◌≡◌ {A = ℕ} 0 1 = cc in omega arith

pub built : (rs : List Re) (t : Table) → build_rules rs ≡ gives t → Built rs t
unfolding build_rules
built rs t e = go (walk_from alone rs) refl e
  where
    go : (w : Walked) → walk_from alone rs ≡ w → built_of w ≡ gives t → Built rs t
    go (halted r) d f = absurd (no_table f)
    go (walked h js) d f = record { held = h; numbers = js; walks = d; table_is = sym (gives_table f) }

-- the label after a text is the one that derivatives work out
pub built_label : (rs : List Re) (t : Table) → build_rules rs ≡ gives t → (w : Text) → Bytes w → label_of t w ≡ label_after rs w
built_label rs t e w b =
    let m = built rs t e in
    let h = m.held in
    let js = m.numbers in
    let a = arrived alone rs h js (walk_explores alone rs h js m.walks) w b in
    ap (λ (u : Table). label_of u w) m.table_is ∙ label_item h js (reach (target js) 0 w) ∙ ap label a.vector_is

-- and so the one that names it
pub build_names : (rs : List Re) (t : Table) → build_rules rs ≡ gives t → (w : Text) → Bytes w → Names rs w (label_of t w)
build_names rs t e w b = rw (built_label rs t e w b) (names_after rs w)

-- ---- cutting

module _ (rs : List Re) (t : Table) (e : build_rules rs ≡ gives t) where
  built_first : (text : Text) → Bytes text → (f : Found) → FirstBy t text f → FirstWord rs text f
  built_first text b =
      first_alike (Labels t) (Names rs) text (λ m l h k p. subst (Names rs (take m text)) p (build_names rs t e (take m text) (bytes_take m text b)))

  pub build_cuts : (room at : ℕ) (text : Text) → Bytes text → Cuts (FirstWord rs) room at text (cut_by (first_by t) room at text)
  build_cuts room at text b = cut_alike (FirstBy t) (FirstWord rs) Bytes bytes_drop built_first b (cut_is (by_table t) room at text)
