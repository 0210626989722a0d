-- Laws for one place more of a vector: its term, made in scratch above the pool, is put into the pool.
-- The pool then holds it with all its parts, in shape, and the vector has one number more; so are vectors derived, and vector 0 made.
use Rattle.std.specs.Prelude.{ℕ, ◌+◌, ◌<◌, ◌≤◌, ◌≡◌, refl, true, List, [], ◌∷◌, ◌++◌, length, take, set}
use Rattle.std.proofs.Common.{add-one, arith, ap, ◌∙◌, inl, inr, le-leb, length-set, take-suc-set, get_or-set_other}
use Rattle.std.proofs.lemmas.List.{map-append}
use Rattle.number.specs.Limits.{rules, tree_nodes}
use Rattle.meaning.specs.Re.{Re, parts, size, sizes}
use Rattle.meaning.specs.Re.Re.{Nothing, Empty, Range, Cat, Alt, Star, And, Not}
use Rattle.meaning.specs.PartLaws.{All, size_parts}
use Rattle.meaning.specs.Limited.{Fit, short}
use Rattle.meaning.specs.Shape.{InShape}
use Rattle.meaning.specs.SizeLaws.{short_size}
use Rattle.term.specs.Cells.{term, Sound}
use Rattle.term.specs.Area.{pending, GrownFree}
use Rattle.term.specs.CellLaws.{Same, sound_less}
use Rattle.normal.specs.AnswerLaws.{Got}
use Rattle.walk.specs.Parts.{with_parts, with_vector, PartOf, InPool}
use Rattle.walk.specs.PartsLaws.{takes_parts}
use Rattle.pool.specs.Pooled.{terms_of, Pool}
use Rattle.pool.specs.Index.{pool_cells, Indexed, Open, Put}
use Rattle.pool.specs.IndexLaws.{indexed_same}
use Rattle.pool.specs.PoolLaws.{terms_frame, held_stands, term_held_below, pooled, pool_same, pool_as}
use Rattle.vector.specs.Layout.{nothing_cell}
use Rattle.vector.specs.Vectors.{vector_of, Numbers}
use Rattle.vector.specs.Memory.{Shaped}
use Rattle.vector.specs.Promises.{Spared}
use Rattle.vector.specs.PlaceLaws.{all_more}
use Rattle.vector.specs.MemoryLaws.{vector_same_cells}

-- ---- parts of a term in shape

shape_parts : (r : Re) → InShape r → All InShape (parts r)
shape_parts Nothing s = tt
shape_parts Empty s = tt
shape_parts (Range lo hi) s = tt
shape_parts (Cat a b) s = (s.0, (s.1, tt))
shape_parts (Alt a b) s = (s.0, (s.1, tt))
shape_parts (Star a) s = (s.0, tt)
shape_parts (And a b) s = (s.0, (s.1, tt))
shape_parts (Not a) s = (s.0, tt)

part_shape : {x : Re} {rs : List Re} → PartOf x rs → All InShape rs → InShape x
part_shape (PartOf.here e) s = rw e s.0
part_shape (PartOf.inside {r} p) s = part_shape p (shape_parts r s.0)
part_shape (PartOf.later p) s = part_shape p s.1

part_size : {x : Re} {rs : List Re} → PartOf x rs → size x ≤ sizes rs
unfolding sizes
part_size (PartOf.here e) = rw e (omega arith)
part_size (PartOf.inside {r} p) = omega (arith, part_size p, size_parts r)
part_size (PartOf.later p) = omega (arith, part_size p)

-- a pool with one more term in shape is in shape
shaped_put : (s : List ℕ) (top : ℕ) (s' : List ℕ) (top' : ℕ) (x : Re) → Shaped s top → Pool s' top' (with_parts (terms_of s top) x) → InShape x
    → short x ≡ true → Shaped s' top'
unfolding sizes
shaped_put s top s' top' x old p f b i h =
    let held : InPool (with_parts (terms_of s top) x) (term s' i) = rw p.holds at (term_held_below s' top' i h) in
    elim ((takes_parts (terms_of s top) x).only (term s' i) held) [
      | inl k ↦ let t = held_stands s top (term s' i) k in rw (← t.is) (old t.at t.within)
      | inr k ↦ (part_shape k (f, tt), le-leb (size (term s' i)) tree_nodes (omega (arith, part_size k, short_size x b)))
    ]

-- ---- vectors with one term more

pub with_snoc : (p xs : List Re) (x : Re) → with_vector p (xs ++ (x ∷ [])) ≡ with_parts (with_vector p xs) x
unfolding with_vector
with_snoc p [] x = refl
with_snoc p (r ∷ xs) x = with_snoc (with_parts p r) xs x

vector_set : (s : List ℕ) (i : ℕ) (w : List ℕ) (a : ℕ) → i < length w → vector_of s (i + 1) (set w i a) ≡ vector_of s i w ++ (term s a ∷ [])
vector_set s i w a h = rw (add-one, take-suc-set w i a h) (map-append (term s) (take i w) (a ∷ []))

-- ---- a term is put into the pool

-- what put_term asks
pub record Puts (x s : List ℕ) (top root : ℕ) : Type 0 where
  pub ready : Open x s top tree_nodes
  pub sound : Sound s (root + 1)
  pub small : size (term s root) ≤ tree_nodes

-- one place more: the vector has one term more, x, and the pool holds it too; the old pool's cells, and those from Nothing's on, are as they were
pub record More (terms : List Re) (s : List ℕ) (top i : ℕ) (w : List ℕ) (x : Re) (s' : List ℕ) (top' : ℕ) (w' : List ℕ) : Type 0 where
  pub vector : vector_of s' (i + 1) w' ≡ vector_of s i w ++ (x ∷ [])
  pub pool : Pool s' top' (with_parts terms x)
  pub shaped : Shaped s' top'
  pub numbers : Numbers (i + 1) top' w'
  pub up : top ≤ top'
  pub few : top' ≤ top + tree_nodes
  pub spared : Spared s top s'

-- a pool with room for one term more, and a short term made above it
module _ {terms : List Re} {s : List ℕ} {top : ℕ} {f : Fit} {most : ℕ} {s₁ : List ℕ} {root above : ℕ} (pool : Pool s top terms)
    (low : top + tree_nodes ≤ pool_cells) (o : Got s top s₁ root above f most) (is_short : short o.value ≡ true) where
  grown : GrownFree pending s top s₁ above
  grown = o.makes.grown

  small : size (term s₁ root) ≤ tree_nodes
  small = rw o.makes.is (short_size o.value is_short)

  pub term_puts : {x : List ℕ} → Indexed x s top → pool_cells ≤ length s → Puts x s₁ top root
  term_puts x long = record {
    ready = record {
      pooled = pooled (pool_same s₁ pool grown.kept_below grown.same_length);
      indexed = indexed_same s₁ x grown.kept_below;
      room = omega (arith, grown.same_length);
      inside = low;
    };
    sound = sound_less (root + 1) grown.sound (omega (arith, o.makes.within));
    small = small;
  }

  -- it becomes place i of a vector of this pool
  module _ {i : ℕ} {w : List ℕ} (in_shape : InShape o.value) (shaped : Shaped s top) (numbers : Numbers i top w) (place : i < rules)
      (used : top + most + pending ≤ nothing_cell) {x₂ s₂ : List ℕ} {root' top' : ℕ}
      (p : Put s₁ top (terms_of s₁ top) x₂ s₂ root' top' (term s₁ root) (top + size (term s₁ root))) where
    on : Same s s₂ top
    on j k = p.kept_below j k ∙ grown.kept_below j k

    inside : i < length w
    inside = omega (arith, numbers.whole)

    vector_now : vector_of s₂ (i + 1) (set w i root') ≡ vector_of s i w ++ (o.value ∷ [])
    vector_now =
        let old : vector_of s₂ i w ≡ vector_of s i w = vector_same_cells s s₂ top i w pool.sound on (omega arith) numbers in
        vector_set s₂ i w root' inside ∙ rw (old, p.is, o.makes.is)

    pool_now : Pool s₂ top' (with_parts (terms_of s top) o.value)
    pool_now = pool_as _ p.pool (rw (terms_frame s s₁ top pool.sound grown.kept_below, o.makes.is))

    pub term_more : More terms s top i w o.value s₂ top' (set w i root')
    term_more = record {
      vector = vector_now;
      pool = pool_as _ pool_now (ap (λ (l : List Re). with_parts l o.value) pool.holds);
      shaped = shaped_put s top s₂ top' o.value shaped pool_now in_shape is_short;
      numbers = record {
        whole = length-set w i root' ∙ numbers.whole;
        inside = all_more (λ j a. a < top') w i root' inside (λ j k. omega (arith, numbers.inside j k, p.up)) p.within;
        past = λ j k l. get_or-set_other w i j root' 0 (λ z. omega arith) ∙ numbers.past j (omega arith) l;
      };
      up = p.up;
      few = omega (arith, p.few, small);
      spared = record {
        same_length = p.same_length ∙ grown.same_length;
        kept_below = on;
        kept_above = λ j k. p.kept_above j (omega (arith, low, small)) ∙ grown.kept_above j (omega (arith, used, o.makes.few));
      };
    }
