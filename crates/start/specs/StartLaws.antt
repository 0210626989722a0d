-- Laws for vector 0, rule by rule: a rule that is too long makes the vector so, and any other is one place more of it.
-- What remains, put behind what was done, is the whole vector; at the end nothing remains.
use Rattle.std.specs.Prelude.{ℕ, suc, ◌+◌, ◌<◌, ◌≤◌, ◌≡◌, refl, true, Option, None, List, [], ◌∷◌, ◌++◌, length, get_or, drop, set, replicate}
use Rattle.std.proofs.Common.{add-one, arith, sym, ap, subst, ◌∙◌, append_assoc, append-nil, length-set, drop_of_length-le, drop-cons, get_or-set_same}
use Rattle.std.proofs.lemmas.List.{length-map, length-replicate, get_or-replicate}
use Rattle.std.proofs.Math.ListN.{get_or-map}
use Rattle.number.specs.Limits.{rules, tree_nodes, scratch, work_cells}
use Rattle.meaning.specs.Re.{Re, size}
use Rattle.meaning.specs.Limited.{short, normal_fit}
use Rattle.meaning.specs.Limited.Fit.{Long, Fits}
use Rattle.meaning.proofs.LimitedLaws.{normal_short, normal_fits_short}
use Rattle.meaning.specs.Shape.{InShape}
use Rattle.meaning.proofs.ShapeLaws.{shape_normal}
use Rattle.book.specs.Expression.{expression, meant}
use Rattle.book.specs.Places.{no_rule}
use Rattle.book.specs.ReadLaws.{book_valid}
use Rattle.term.specs.Cells.{term}
use Rattle.term.specs.Area.{Room}
use Rattle.term.specs.declared.Built.{Built}
use Rattle.normal.specs.AnswerLaws.{Got, long_is}
use Rattle.rule.specs.Work.{Has, rule_in, rule_cells, RuleMade}
use Rattle.pool.specs.Pooled.{terms_of, Pooled}
use Rattle.pool.specs.Index.{pool_cells, Indexed, Put}
use Rattle.pool.specs.PoolLaws.{pooled, pool_none}
use Rattle.walk.specs.Vectors.{Vector, front, normalised}
use Rattle.walk.specs.Vectors.Vector.{TooLong, Terms}
use Rattle.walk.specs.Parts.{with_parts, with_vector}
use Rattle.vector.specs.declared.Derived.{Derived}
use Rattle.vector.specs.Layout.{nothing_cell, work_length}
use Rattle.vector.specs.Vectors.{vector_of}
use Rattle.vector.specs.Memory.{Shaped, Kept, First}
use Rattle.vector.specs.PutLaws.{with_snoc, Puts, More, term_puts, term_more}
use Rattle.start.specs.Start.{rules_in, Opened, fronts, Starts}

-- ---- terms in front of those that remain

fronts_none : (v : Vector) → fronts [] v ≡ v
fronts_none TooLong = refl
fronts_none (Terms ys) = refl

fronts_long : (xs : List Re) (r : Re) (rs : List Re) → normal_fit r ≡ Long → fronts xs (normalised (r ∷ rs)) ≡ TooLong
unfolding normalised
fronts_long xs r rs e = rw e

fronts_fits : (xs : List Re) (r : Re) (rs : List Re) (v : Re) → normal_fit r ≡ Fits v
    → fronts xs (normalised (r ∷ rs)) ≡ fronts (xs ++ (v ∷ [])) (normalised rs)
unfolding normalised
fronts_fits xs r rs v e = rw e (go (normalised rs))
  where
    go : (w : Vector) → fronts xs (front (Fits v) w) ≡ fronts (xs ++ (v ∷ [])) w
    go TooLong = refl
    go (Terms ys) = ap Terms (sym (append_assoc xs (v ∷ []) ys))

fronts_all : (xs rs : List Re) → rs ≡ [] → fronts xs (normalised rs) ≡ Terms xs
unfolding normalised
fronts_all xs rs e = rw e (ap Terms (append-nil xs))

-- no terms in front of a vector
pub starts_none : {u : Vector} {n m : ℕ} {x s : List ℕ} {r : Option Derived} → Starts (fronts [] u) n x s r → n ≡ m → Starts u m x s r
starts_none {u} {n} {m} {x} {s} {r} a e = subst (λ (k : ℕ). Starts u k x s r) e (subst (λ (v : Vector). Starts v n x s r) (fronts_none u) a)

-- ---- no rule yet

-- where no item is held, the rest of the cells is in order
kept_none : {s : List ℕ} {n top : ℕ} → work_length ≤ length s → length s ≤ work_cells → n ≤ rules → Pooled s top → top ≤ pool_cells → Shaped s top
    → get_or s nothing_cell 0 ≡ 0 → Kept s n top 0
kept_none long small few pool fits shaped nothing =
    record {
      long = long;
      small = small;
      few_rules = few;
      pooled = pool;
      top_fits = fits;
      shaped = shaped;
      nothing = nothing;
      numbers = λ k l. absurd (omega arith);
      parents = λ k l m. absurd (omega arith);
      text_bytes = λ k l. absurd (omega arith);
    }

pub first_none : (s₀ s : List ℕ) → work_length ≤ length s₀ → length s₀ ≤ work_cells → s ≡ set s₀ nothing_cell 0
    → First s 0 0 (replicate rules nothing_cell)
unfolding with_vector
first_none s₀ s long small e =
    let same : length s ≡ length s₀ = ap length e ∙ length-set s₀ nothing_cell 0 in
    let none = pool_none s (omega arith) in
    record {
      kept =
          kept_none (omega arith) (omega arith) (omega arith) (pooled none) (omega arith) (λ i h. absurd (omega arith))
          (rw e (get_or-set_same s₀ nothing_cell 0 0 (omega arith)));
      numbers =
          record {
            whole = length-replicate rules nothing_cell;
            inside = λ i h. absurd (omega arith);
            past = λ i h k. get_or-replicate rules i nothing_cell 0 k;
          };
      holds = none.holds;
      few = omega arith;
    }

-- ---- the book's rules

module _ {file : List ℕ} {n : ℕ} (o : Opened file n) where
  pub few_rules : n ≤ rules
  few_rules = omega (arith, o.many, (book_valid file o.book o.after o.read).0.few)

  rules_many : length (rules_in file) ≡ n
  rules_many = rw o.read (length-map o.book.rules expression ∙ o.many)

  rule_next : (i : ℕ) → i < n → drop i (rules_in file) ≡ rule_in file i ∷ drop (i + 1) (rules_in file)
  rule_next i h =
      let row = meant o.book in
      let l : i < length row = omega (arith, length-map o.book.rules expression, o.many) in
      rw (o.read, add-one)
      (drop-cons row i (expression no_rule) l ∙ ap (λ (r : Re). r ∷ drop (suc i) row) (get_or-map expression o.book.rules i no_rule))

-- the first i rules are done, behind k terms: with those of the rules that remain the terms are the whole vector
pub record Begun (file : List ℕ) (n : ℕ) (u : Vector) (k i : ℕ) (x s : List ℕ) (top : ℕ) (w : List ℕ) : Type 0 where
  pub within : i ≤ n
  pub terms : fronts (vector_of s (k + i) w) (normalised (drop i (rules_in file))) ≡ u
  pub first : First s (k + i) top w
  pub indexed : Indexed x s top

module _ {file : List ℕ} {n : ℕ} (o : Opened file n) {k : ℕ} (fits : k + n ≤ rules) where
  pub begun_first : {x s : List ℕ} {top : ℕ} {v : List ℕ} → First s k top v → Indexed x s top
      → Begun file n (fronts (vector_of s k v) (normalised (rules_in file))) k 0 x s top v
  begun_first f x = let e : k + 0 ≡ k = omega arith in record { within = omega arith; terms = rw e; first = rw e f; indexed = x }

  module _ {u : Vector} {i : ℕ} {x s : List ℕ} {top : ℕ} {w : List ℕ} (g : Begun file n u k i x s top w) where
    -- ---- one rule

    module _ (h : i < n) where
      low : top + tree_nodes ≤ pool_cells
      low = omega (arith, g.first.few)

      pub rule_has : Has file i
      rule_has = record { book = o.book; after = o.after; read = o.read; within = omega (arith, o.many) }

      pub rule_room : Room s top scratch
      rule_room = omega (arith, low, g.first.kept.long)

      -- a rule that is too long
      pub rule_long : {s₁ : List ℕ} {r : Option Built} → RuleMade file i s top s₁ r → r ≡ None → u ≡ TooLong
      rule_long m e =
          sym g.terms ∙ ap (λ (l : List Re). fronts (vector_of s (k + i) w) (normalised l)) (rule_next o i h)
          ∙ fronts_long (vector_of s (k + i) w) (rule_in file i) (drop (i + 1) (rules_in file)) (long_is m e)

      -- a rule's term stands in scratch
      module _ {s₁ : List ℕ} {root above : ℕ} (y : Got s top s₁ root above (normal_fit (rule_in file i)) rule_cells) where
        value_short : short y.value ≡ true
        value_short = normal_fits_short (rule_in file i) y.value y.fits

        value_shape : InShape y.value
        value_shape = rw (normal_short (rule_in file i) y.value y.fits) (shape_normal (rule_in file i))

        pub rule_puts : Puts x s₁ top root
        rule_puts = term_puts g.first.kept.pooled low y value_short g.indexed (omega (arith, g.first.kept.long))

        -- and is put into the pool
        module _ {x₂ s₂ : List ℕ} {root' top' : ℕ}
            (p : Put s₁ top (terms_of s₁ top) x₂ s₂ root' top' (term s₁ root) (top + size (term s₁ root))) where
          more : More (terms_of s top) s top (k + i) w y.value s₂ top' (set w (k + i) root')
          more =
              let f = g.first in
              term_more f.kept.pooled low y value_short value_shape f.kept.shaped f.numbers (omega arith) (omega (arith, low)) p

          first_more : First s₂ (k + i + 1) top' (set w (k + i) root')
          first_more =
              let f = g.first in
              let same = more.spared.same_length in
              record {
                kept =
                    kept_none (omega (arith, f.kept.long, same)) (omega (arith, f.kept.small, same)) (omega arith) (pooled more.pool)
                    (omega (arith, low, more.few)) more.shaped (more.spared.kept_above nothing_cell (omega arith) ∙ f.kept.nothing);
                numbers = more.numbers;
                holds =
                    more.pool.holds
                    ∙ rw (more.vector, with_snoc [] (vector_of s (k + i) w) y.value) (ap (λ (l : List Re). with_parts l y.value) f.holds);
                few = omega (arith, f.few, more.few);
              }

          pub rule_more : Begun file n u k (i + 1) x₂ s₂ top' (set w (k + i) root')
          rule_more =
              let e : k + (i + 1) ≡ k + i + 1 = omega arith in
              let rest = drop (i + 1) (rules_in file) in
              record {
                within = omega arith;
                terms =
                    rw e
                    (ap (λ (l : List Re). fronts l (normalised rest)) more.vector
                    ∙ sym (fronts_fits (vector_of s (k + i) w) (rule_in file i) rest y.value y.fits)
                    ∙ ap (λ (l : List Re). fronts (vector_of s (k + i) w) (normalised l)) (sym (rule_next o i h)) ∙ g.terms);
                first = rw e first_more;
                indexed = p.indexed;
              }

    -- ---- after the last rule

    pub begun_last : i ≡ n → u ≡ Terms (vector_of s (k + n) w)
    begun_last e =
        let all : length (rules_in file) ≤ n = omega (arith, rules_many o) in
        sym (rw e at g.terms) ∙ fronts_all (vector_of s (k + n) w) (drop n (rules_in file)) (drop_of_length-le (rules_in file) all)
