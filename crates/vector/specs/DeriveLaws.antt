-- Laws for the derivative of a vector, place by place: the terms of the places done, the pool that holds them with their parts, and their shape.
-- One law for each of the code's steps: a place more is done, or its term is too long.
use Rattle.std.specs.Prelude.{ℕ, zero, suc, ◌+◌, ◌*◌, ◌<◌, ◌≤◌, ◌≡◌, refl, true, Option, None, List, [], ◌∷◌, ◌++◌, length, get_or, take, set}
use Rattle.std.proofs.Common.{add-one, arith, sym, ap, ◌∙◌, take-suc}
use Rattle.std.proofs.lemmas.List.{map-append}
use Rattle.number.specs.Limits.{rules, tree_nodes, pool}
use Rattle.meaning.specs.Re.{Re, size}
use Rattle.meaning.specs.Re.Re.{Nothing}
use Rattle.meaning.specs.Limited.{Fit, short, deriv_fit}
use Rattle.meaning.specs.Limited.Fit.{Long, Fits}
use Rattle.meaning.proofs.LimitedLaws.{deriv_short, deriv_fits_short}
use Rattle.meaning.specs.Shape.{InShape}
use Rattle.meaning.proofs.ShapeLaws.{shape_deriv}
use Rattle.meaning.specs.SizeLaws.{short_size}
use Rattle.term.specs.Cells.{term}
use Rattle.term.specs.Area.{pending, Wasted}
use Rattle.term.specs.CellLaws.{frame}
use Rattle.term.specs.declared.Built.{Built}
use Rattle.normal.specs.Made.{MadeBy}
use Rattle.derivative.specs.Derives.{deriv_room, deriv_cells, Derives}
use Rattle.normal.specs.AnswerLaws.{Got, long_is, long_wasted}
use Rattle.walk.specs.Vectors.{Vector, front, derived}
use Rattle.walk.specs.Vectors.Vector.{TooLong, Terms}
use Rattle.walk.specs.Parts.{with_vector}
use Rattle.pool.specs.Pooled.{terms_of}
use Rattle.pool.specs.Index.{Indexed, Put}
use Rattle.pool.specs.PoolLaws.{pool_as}
use Rattle.vector.specs.Layout.{nothing_cell}
use Rattle.vector.specs.Vectors.{vector_of}
use Rattle.vector.specs.Promises.{Derivable, Done, Spared}
use Rattle.vector.specs.PlaceLaws.{vector_length, vector_at}
use Rattle.vector.specs.PutLaws.{with_snoc, Puts, More, term_puts, term_more}

-- ---- the terms of a derived vector

-- one term more behind a vector
abbrev behind : Vector → Fit → Vector
behind TooLong f = TooLong
behind (Terms ys) Long = TooLong
behind (Terms ys) (Fits y) = Terms (ys ++ (y ∷ []))

derived_behind : (c : ℕ) (xs : List Re) (x : Re) → derived c (xs ++ (x ∷ [])) ≡ behind (derived c xs) (deriv_fit c x)
unfolding derived
derived_behind c [] x = go (deriv_fit c x)
  where
    go : (f : Fit) → front f (Terms []) ≡ behind (Terms []) f
    go Long = refl
    go (Fits y) = refl
derived_behind c (r ∷ xs) x = rw (derived_behind c xs x) (go (deriv_fit c r) (derived c xs) (deriv_fit c x))
  where
    go : (f : Fit) (v : Vector) (g : Fit) → front f (behind v g) ≡ behind (front f v) g
    go Long v g = refl
    go (Fits y) TooLong g = refl
    go (Fits y) (Terms ys) Long = refl
    go (Fits y) (Terms ys) (Fits z) = refl

derived_snoc : (c : ℕ) (xs : List Re) (x : Re) (ys : List Re) (y : Re) → derived c xs ≡ Terms ys → deriv_fit c x ≡ Fits y
    → derived c (xs ++ (x ∷ [])) ≡ Terms (ys ++ (y ∷ []))
derived_snoc c xs x ys y d e = derived_behind c xs x ∙ rw (d, e)

derived_long : (c : ℕ) (rs : List Re) (k : ℕ) → k < length rs → deriv_fit c (get_or rs k Nothing) ≡ Long → derived c rs ≡ TooLong
unfolding derived
derived_long c [] k h e = absurd (omega arith)
derived_long c (r ∷ rs) zero h e = rw e
derived_long c (r ∷ rs) (suc k) h e = rw (derived_long c rs k (omega arith) e) (front_long (deriv_fit c r))
  where
    front_long : (f : Fit) → front f TooLong ≡ TooLong
    front_long Long = refl
    front_long (Fits x) = refl

vector_next : (s : List ℕ) (i : ℕ) (v : List ℕ) → i < length v → vector_of s (i + 1) v ≡ vector_of s i v ++ (term s (get_or v i 0) ∷ [])
vector_next s i v h = rw (add-one, take-suc v i 0 h) (map-append (term s) (take i v) (get_or v i 0 ∷ []))

-- ---- the loop over the places

-- the first i places are done
pub record Going (s : List ℕ) (top n : ℕ) (v : List ℕ) (byte : ℕ) (x₁ s₁ : List ℕ) (next : ℕ) (to : List ℕ) (i : ℕ) : Type 0 where
  pub within : i ≤ n
  pub indexed : Indexed x₁ s₁ next
  pub spared : Spared s top s₁
  pub done : Done s top i v byte s₁ next to

pub going_first : {x s : List ℕ} {top n : ℕ} {v : List ℕ} (byte : ℕ) (to : List ℕ) → Derivable x s top n v → length to ≡ rules
    → ((i : ℕ) → i < rules → get_or to i 0 ≡ nothing_cell) → Going s top n v byte x s top to 0
unfolding derived with_vector
going_first byte to d l p = record {
  within = omega arith;
  indexed = d.indexed;
  spared = record { same_length = refl; kept_below = λ i h. refl; kept_above = λ i h. refl };
  done = record {
    terms = refl;
    pooled = d.pooled;
    shaped = d.shaped;
    numbers = record { whole = l; inside = λ i h. absurd (omega arith); past = λ i h k. p i k };
    up = omega arith;
    few = omega arith;
  };
}

module _ {x s : List ℕ} {top n : ℕ} {v : List ℕ} {byte : ℕ} {x₁ s₁ : List ℕ} {next : ℕ} {to : List ℕ} {i : ℕ}
    (d : Derivable x s top n v) (g : Going s top n v byte x₁ s₁ next to i) (h : i < n) where
  -- the next term is one of the old pool's
  old_held : get_or v i 0 < next
  old_held = omega (arith, d.numbers.inside i h, g.done.up)

  old_term : term s₁ (get_or v i 0) ≡ term s (get_or v i 0)
  old_term = frame s s₁ top (get_or v i 0) d.pooled.sound g.spared.kept_below (d.numbers.inside i h)

  old_shape : InShape (term s₁ (get_or v i 0))
  old_shape = (g.done.shaped (get_or v i 0) old_held).0

  old_short : short (term s₁ (get_or v i 0)) ≡ true
  old_short = (g.done.shaped (get_or v i 0) old_held).1

  old_size : size (term s₁ (get_or v i 0)) ≤ tree_nodes
  old_size = short_size (term s₁ (get_or v i 0)) old_short

  -- how far the pool has grown, and that the cells used by the derivative and by counting end below Nothing's
  low : next + tree_nodes ≤ pool + rules * tree_nodes
  low = omega (arith, g.done.few, d.low, d.few_rules)

  used : next + deriv_cells (term s₁ (get_or v i 0)) + pending ≤ nothing_cell
  unfolding deriv_cells
  used = omega (arith, low, old_size)

  pub place_derives : Derives s₁ next (get_or v i 0)
  unfolding deriv_room
  place_derives = record {
    sound = g.done.pooled.sound;
    held = old_held;
    in_shape = old_shape;
    is_short = old_short;
    room = omega (arith, low, old_size, d.long, g.spared.same_length);
  }

  spared_on : {s₂ : List ℕ} → Spared s₁ next s₂ → Spared s top s₂
  spared_on r = record {
    same_length = r.same_length ∙ g.spared.same_length;
    kept_below = λ j k. r.kept_below j (omega (arith, g.done.up)) ∙ g.spared.kept_below j k;
    kept_above = λ j k. r.kept_above j k ∙ g.spared.kept_above j k;
  }

  -- the place's term is too long, and so is the vector
  module _ {s₂ : List ℕ} {r : Option Built} (m : MadeBy s₁ next s₂ r (deriv_fit byte (term s₁ (get_or v i 0))) (deriv_cells (term s₁ (get_or v i 0))))
      (e : r ≡ None) where
    wasted : Wasted s₁ next s₂ (next + deriv_cells (term s₁ (get_or v i 0)) + pending)
    wasted = long_wasted m e

    pub place_spared : Spared s top s₂
    place_spared = spared_on (record {
      same_length = wasted.same_length;
      kept_below = wasted.kept_below;
      kept_above = λ j k. wasted.kept_above j (omega (arith, used));
    })

    pub place_long : derived byte (vector_of s n v) ≡ TooLong
    place_long =
        let l : n ≤ length v = omega (arith, d.numbers.whole, d.few_rules) in
        derived_long byte (vector_of s n v) i (omega (arith, vector_length s n v l))
        (ap (deriv_fit byte) (vector_at s n v i l h ∙ sym old_term) ∙ long_is m e)

  -- it was derived
  module _ {s₂ : List ℕ} {root above : ℕ}
      (o : Got s₁ next s₂ root above (deriv_fit byte (term s₁ (get_or v i 0))) (deriv_cells (term s₁ (get_or v i 0)))) where
    new_short : short o.value ≡ true
    new_short = deriv_fits_short byte (term s₁ (get_or v i 0)) o.value o.fits

    new_shape : InShape o.value
    new_shape = rw (deriv_short byte (term s₁ (get_or v i 0)) o.value o.fits) (shape_deriv byte (term s₁ (get_or v i 0)) old_shape)

    pub place_puts : Puts x₁ s₂ next root
    place_puts = term_puts g.done.pooled low o new_short g.indexed (omega (arith, d.long, g.spared.same_length))

    -- and put into the pool
    module _ {x₃ s₃ : List ℕ} {root' next' : ℕ}
        (p : Put s₂ next (terms_of s₂ next) x₃ s₃ root' next' (term s₂ root) (next + size (term s₂ root))) where
      more : More (with_vector (terms_of s top) (vector_of s₁ i to)) s₁ next i to o.value s₃ next' (set to i root')
      more = term_more g.done.pooled low o new_short new_shape g.done.shaped g.done.numbers (omega (arith, d.few_rules)) used p

      terms_now : derived byte (vector_of s (i + 1) v) ≡ Terms (vector_of s₃ (i + 1) (set to i root'))
      terms_now =
          ap (derived byte) (vector_next s i v (omega (arith, d.numbers.whole, d.few_rules)))
          ∙ derived_snoc byte (vector_of s i v) (term s (get_or v i 0)) (vector_of s₁ i to) o.value g.done.terms (rw (← old_term) o.fits)
          ∙ ap Terms (sym more.vector)

      pub place_more : Going s top n v byte x₃ s₃ next' (set to i root') (i + 1)
      place_more = record {
        within = omega arith;
        indexed = p.indexed;
        spared = spared_on more.spared;
        done = record {
          terms = terms_now;
          pooled = pool_as _ more.pool (rw (more.vector, with_snoc (terms_of s top) (vector_of s₁ i to) o.value));
          shaped = more.shaped;
          numbers = more.numbers;
          up = omega (arith, g.done.up, more.up);
          few = omega (arith, g.done.few, more.few);
        };
      }
