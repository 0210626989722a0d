-- The whole walk: what it found, for every text of bytes. Building and comparing cite this page.
-- Where the walk is finished, every text leads through the numbers to the item of its sheet state and its vector.
use Rattle.std.specs.Prelude.{ℕ, zero, suc, ◌+◌, ◌*◌, ◌<◌, ◌≤◌, ◌≡◌, refl, List, [], ◌∷◌, ◌++◌, map, length, get_or}
use Rattle.std.proofs.Common.{sym, subst, ◌∙◌, append_assoc, append-nil, arith}
use Rattle.std.proofs.Math.Path.{ap}
use Rattle.number.specs.Limits.{bytes}
use Rattle.number.specs.Numbers.{Bytes}
use Rattle.meaning.specs.Re.{Re, Text}
use Rattle.meaning.specs.Normal.{normal}
use Rattle.meaning.specs.Rules.{derive_all, derive_by, start}
use Rattle.meaning.specs.Words.{reach}
use Rattle.walk.specs.Vectors.{Vector, normalised}
use Rattle.walk.specs.Vectors.Vector.{TooLong, Terms}
use Rattle.walk.specs.VectorLaws.{Is, normalised_is}
use Rattle.walk.specs.Walk.{Item, none, Held, nothing_held, Step, Way, added, begin_by, on_from, walk_from}
use Rattle.walk.specs.Walk.Walked.{walked}
use Rattle.walk.specs.StepLaws.{item, count, added_old, added_new, added_count, Came, came}
use Rattle.walk.specs.StepLaws.Came.{held, full, over, new}
use Rattle.walk.specs.WalkLaws.{Led, Good, Leads, Rows, rows_good, target, no_walk, reach_more, derive_more}
use Rattle.walk.specs.Texts.{Sooner, NotLater}
use Rattle.walk.specs.Texts.NotLater.{equal}
use Rattle.walk.specs.TextLaws.{not_later_snoc, not_later_trans, empty_first}

-- what a finished walk has found: the items, and for each item and byte the number that it leads to
pub record Explored (way : Way) (rs : List Re) (h : Held) (js : List ℕ) : Type 0 where
  pub good : Good way rs h
  pub many : length js ≡ count h * bytes
  pub leads : (i c : ℕ) → i < count h → c < bytes → Leads way h i c (target js i c)

-- ---- the beginning

-- the first item alone is good
pub good_first : (way : Way) (rs : List Re) (v : List Re) → v ≡ map normal rs → 0 < way.limit → Good way rs (added nothing_held (record { sheet = 0; vector = v; text = [] }))
good_first way rs v e l = record {
  some = omega arith;
  few = l;
  begins = refl;
  led = go;
  short = short;
  rising = λ j k m n. absurd (omega arith);
  once = λ j k m n. absurd (omega arith);
}
  where
    go : (k : ℕ) → k < 1 → Led way rs (item (added nothing_held (record { sheet = 0; vector = v; text = [] })) k)
    go zero m = record { sheet_is = refl; vector_is = e; text_is = λ i b. absurd (omega arith) }
    go (suc k) m = absurd (omega arith)

    short : (k : ℕ) → k < 1 → length (get_or (record { sheet = 0; vector = v; text = [] } ∷ []) k none).text ≤ k
    short zero m = omega arith
    short (suc k) m = absurd (omega arith)

pub ahead_first : (v : List Re) (k : ℕ) → k < 1 → Sooner (get_or (record { sheet = 0; vector = v; text = [] } ∷ []) k none).text ([] ++ (0 ∷ []))
ahead_first v zero l = empty_first [] 0
ahead_first v (suc k) l = absurd (omega arith)

module _ (way : Way) (rs : List Re) where
  explored_rows : (h : Held) (js : List ℕ) (h₀ : Held) → Rows way rs 0 h₀ h js → Explored way rs h js
  explored_rows h js h₀ r = record {
    good = r.good;
    many = omega (arith, r.many);
    leads = λ i c l b. let e : 0 + i ≡ i = omega arith in subst (λ (k : ℕ). Leads way h k c (target js i c)) e (r.leads i c (omega arith) b);
  }

  begun : (v : List Re) → v ≡ map normal rs → {s : Step} → Came way 0 nothing_held (record { sheet = 0; vector = v; text = [] }) s
      → (h : Held) (js : List ℕ) → on_from way s ≡ walked h js → Explored way rs h js
  begun v e (held j l p n) h js d = absurd (omega arith)
  begun v e (full n l) h js d = absurd (no_walk d)
  begun v e (over n l p) h js d = absurd (no_walk d)
  begun v e (new n l p) h js d =
      let h₀ = added nothing_held (record { sheet = 0; vector = v; text = [] }) in
      explored_rows h js h₀ (rows_good way rs way.limit 0 h₀ (good_first way rs v e l) (omega arith) (omega arith) (λ _. ahead_first v) h js d)

  begun_by : (v : Vector) → Is v (map normal rs) → (h : Held) (js : List ℕ) → on_from way (begin_by way v) ≡ walked h js → Explored way rs h js
  begun_by TooLong p h js d = absurd (no_walk d)
  begun_by (Terms v) p h js d = begun v p (came way 0 nothing_held (record { sheet = 0; vector = v; text = [] })) h js d

  pub walk_explores : (h : Held) (js : List ℕ) → walk_from way rs ≡ walked h js → Explored way rs h js
  unfolding walk_from
  walk_explores h js d = begun_by (normalised rs) (normalised_is rs) h js d

  -- and the rules fit
  pub walk_fits : (h : Held) (js : List ℕ) → walk_from way rs ≡ walked h js → normalised rs ≡ Terms (start rs)
  unfolding walk_from
  walk_fits h js d = go (normalised rs) (normalised_is rs) d
    where
      go : (v : Vector) → Is v (start rs) → on_from way (begin_by way v) ≡ walked h js → v ≡ Terms (start rs)
      go TooLong p f = absurd (no_walk f)
      go (Terms v) p f = ap Terms p

-- ---- every text

-- the item that a text leads to: its sheet state, its vector, and a text that is not later
pub record Arrived (way : Way) (rs : List Re) (h : Held) (w : Text) (j : ℕ) : Type 0 where
  pub inside : j < count h
  pub sheet_is : (item h j).sheet ≡ reach way.go 0 w
  pub vector_is : (item h j).vector ≡ derive_by (start rs) w
  pub not_later : NotLater (item h j).text w

pub bytes_tail : (c : ℕ) (w : Text) → Bytes (c ∷ w) → Bytes w
bytes_tail c w b i l = b (suc i) (omega arith)

module _ (way : Way) (rs : List Re) (h : Held) where
  pub first_arrived : Good way rs h → Arrived way rs h [] 0
  first_arrived g =
      let z = g.led 0 g.some in
      record {
        inside = g.some;
        sheet_is = z.sheet_is ∙ ap (reach way.go 0) g.begins;
        vector_is = z.vector_is ∙ ap (derive_by (start rs)) g.begins;
        not_later = equal g.begins;
      }

  pub arrive_one : (u : Text) (c i j : ℕ) → Arrived way rs h u i → Leads way h i c j → Arrived way rs h (u ++ (c ∷ [])) j
  arrive_one u c i j a l = record {
    inside = l.inside;
    sheet_is = l.sheet_on ∙ ap (λ (s : ℕ). way.go s c) a.sheet_is ∙ sym (reach_more way.go 0 u c);
    vector_is = l.vector_on ∙ ap (derive_all c) a.vector_is ∙ sym (derive_more (start rs) u c);
    not_later = not_later_trans l.not_later (not_later_snoc c a.not_later);
  }

  -- with one item more
  pub arrived_added : (y : Item) (w : Text) (k : ℕ) → Arrived way rs h w k → Arrived way rs (added h y) w k
  arrived_added y w k a =
      let e = added_old h y k a.inside in
      record {
        inside = omega (arith, a.inside, added_count h y);
        sheet_is = rw e a.sheet_is;
        vector_is = rw e a.vector_is;
        not_later = rw e a.not_later;
      }

  pub arrived_new : (y : Item) → Led way rs y → Arrived way rs (added h y) y.text (count h)
  arrived_new y l =
      let e = added_new h y in
      record {
        inside = omega (arith, added_count h y);
        sheet_is = rw e l.sheet_is;
        vector_is = rw e l.vector_is;
        not_later = rw e (equal refl);
      }

module _ (way : Way) (rs : List Re) (h : Held) (js : List ℕ) (x : Explored way rs h js) where
  arrive_on : (w u : Text) (i : ℕ) → Bytes w → Arrived way rs h u i → Arrived way rs h (u ++ w) (reach (target js) i w)
  arrive_on [] u i b a = rw (append-nil u) a
  arrive_on (c ∷ w) u i b a =
      rw (append_assoc u (c ∷ []) w) at (arrive_on w (u ++ (c ∷ [])) (target js i c) (bytes_tail c w b)
      (arrive_one way rs h u c i (target js i c) a (x.leads i c a.inside (b 0 (omega arith)))))

  pub arrived : (w : Text) → Bytes w → Arrived way rs h w (reach (target js) 0 w)
  arrived w b = arrive_on w [] 0 b (first_arrived way rs h x.good)
