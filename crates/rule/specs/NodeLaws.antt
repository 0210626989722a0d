-- Laws of one node's work: what its parts ask for, that each part's answer is the node's, and how many cells it takes.
-- A node whose result fits takes at most three cells, and half of most_members more for each term that it takes.
use Rattle.std.specs.Prelude.{ℕ, ◌+◌, ◌-◌, ◌*◌, ◌/◌, ◌≤◌, ◌≡◌, refl, Bool, true, false, cond, ◌||◌, List}
use Rattle.std.proofs.Common.{arith, ◌∙◌}
use Rattle.number.specs.Limits.{capital}
use Rattle.meaning.specs.declared.Join.{Join}
use Rattle.meaning.specs.declared.Join.TheVariants.{Then, Or, Both}
use Rattle.meaning.specs.Re.{Re, size, is_nothing}
use Rattle.meaning.specs.Normal.{gathered, alt, formed}
use Rattle.meaning.specs.Limited.{short, fit}
use Rattle.meaning.specs.Limited.Fit.{Long, Fits}
use Rattle.meaning.specs.Shape.{Sorts}
use Rattle.meaning.specs.SizeLaws.{short_members}
use Rattle.book.specs.declared.Node.{Node}
use Rattle.book.specs.declared.Node.TheVariants.{Nothing, Empty, Range, Cat, Alt, Star, Either, And, Not}
use Rattle.book.specs.Book.{takes}
use Rattle.term.specs.declared.Term.TheVariants.{Range as RangeNode}
use Rattle.term.specs.Cells.{term}
use Rattle.term.specs.Area.{pending, Room}
use Rattle.term.specs.Nodes.{Pushed}
use Rattle.term.specs.Counts.{Countable}
use Rattle.term.specs.CellLaws.{grown_trans, grown_term, makes_more, makes_as, makes_after}
use Rattle.term.specs.declared.Built.{Built}
use Rattle.normal.specs.Asked.{members, most_members, Links}
use Rattle.merged.specs.Asked.{merge_cells, Sides}
use Rattle.merged.specs.Builds.{Merged}
use Rattle.normal.specs.AnswerLaws.{made_counts}
use Rattle.normal.specs.ChainLaws.{cat_few}
use Rattle.merged.specs.UniteLaws.{merge_few}
use Rattle.rule.specs.RunFit.{large, small, made}
use Rattle.rule.specs.Work.{Item, either_cells, node_cells, node_room, Operands, NodeBuilt, EitherBuilt}

-- ---- the two forms of a letter

module _ {s s1 s2 : List ℕ} {top second third x : ℕ} (room : Room s top either_cells)
    (p : Pushed s top (RangeNode (x - capital) (x - capital)) s1 second) (q : Pushed s1 second (RangeNode x x) s2 third) where
  letter_large : term s2 top ≡ large x
  letter_large = grown_term top q.makes.grown p.makes.grown.sound p.makes.within ∙ p.makes.is

  letter_small : term s2 second ≡ small x
  letter_small = q.makes.is

  pub letters_ask : Sides Or s2 third top second
  unfolding gathered size
  letters_ask =
      record {
        sorts = tt;
        sound = q.makes.grown.sound;
        left = omega (arith, p.after, q.after);
        right = omega (arith, q.after);
        left_shape = rw letter_large tt;
        right_shape = rw letter_small tt;
        left_short = rw letter_large refl;
        right_short = rw letter_small refl;
        room =
            rw (letter_large, letter_small)
            (omega (arith, p.after, q.after, p.makes.grown.same_length, q.makes.grown.same_length));
      }

  letters_few : merge_cells Or (term s2 top) (term s2 second) ≤ 1
  unfolding gathered
  letters_few = rw (letter_large, letter_small) (merge_few Or tt (large x) (small x) tt tt)

  pub letters_built : {s3 : List ℕ} {r : Built} → Merged Or s2 third top second s3 r → EitherBuilt s top x s3 r
  letters_built m =
      makes_as (alt (large x) (small x))
      (makes_more 3 (makes_after 2 (grown_trans p.makes.grown q.makes.grown) (omega (arith, p.after, q.after)) m) (omega (arith, letters_few)))
      (rw (letter_large, letter_small))

-- ---- a node's parts

merged_few : (k : Join) → Sorts k → {s : List ℕ} {top a b : ℕ} → Item s top a → Item s top b → merge_cells k (term s a) (term s b) ≤ node_room
merged_few k sorts {s} {top} {a} {b} x y =
    omega (
      arith,
      merge_few k sorts (term s a) (term s b) x.in_shape y.in_shape,
      short_members k (term s a) x.is_short,
      short_members k (term s b) y.is_short,
    )

module _ {n : Node} {s : List ℕ} {top a b : ℕ} (o : Operands n s top a b) where
  -- a node of two terms finds both, in normal form and short
  items : (m : Node) → n ≡ m → 2 ≤ takes m → Item s top a × Item s top b
  items m e two = (o.below (rw e two), o.first (rw e (omega arith)))

  pub cat_asks : n ≡ Cat → Links s top a b
  cat_asks e =
      let x = items Cat e (omega arith) in
      record {
        sound = o.sound;
        left = x.0.low;
        right = x.1.low;
        room = omega (arith, o.room, short_members Then (term s a) x.0.is_short);
      }

  pub merge_asks : (k : Join) → Sorts k → (m : Node) → n ≡ m → 2 ≤ takes m → Sides k s top a b
  merge_asks k sorts m e two =
      let x = items m e two in
      record {
        sorts = sorts;
        sound = o.sound;
        left = x.0.low;
        right = x.1.low;
        left_shape = x.0.in_shape;
        right_shape = x.1.in_shape;
        left_short = x.0.is_short;
        right_short = x.1.is_short;
        room = omega (arith, o.room, short_members k (term s a) x.0.is_short, short_members k (term s b) x.1.is_short);
      }

  -- the cells that any node takes
  pub node_few : node_cells n (term s a) (term s b) ≤ node_room
  node_few = go n o
    where
      go : (m : Node) → Operands m s top a b → node_cells m (term s a) (term s b) ≤ node_room
      go Nothing q = omega arith
      go Empty q = omega arith
      go (Range lo hi) q = omega arith
      go Cat q = omega (arith, cat_few (term s a) (term s b), short_members Then (term s a) (q.below (omega arith)).is_short)
      go Alt q = merged_few Or tt (q.below (omega arith)) (q.first (omega arith))
      go Star q = omega arith
      go (Either x) q = omega arith
      go And q = merged_few Both tt (q.below (omega arith)) (q.first (omega arith))
      go Not q = omega arith

  -- and its result may be counted
  pub node_counts : Room s top (node_room + pending) → {s' : List ℕ} {made : Built} → NodeBuilt n s top a b s' made
      → Countable s' made.top made.root
  node_counts room m = made_counts m (omega (arith, node_few))

-- ---- the cells of a node whose result fits

fit_short : (r v : Re) → fit r ≡ Fits v → short r ≡ true
fit_short r v = go (short r)
  where
    go : (b : Bool) → cond b (Fits r) Long ≡ Fits v → b ≡ true
    go true e = refl
    go false e = absurd (let z : ◌≡◌ {A = ℕ} 0 1 = cc in omega arith)

merge_cells_lem : (k : Join) (a b v : Re) → fit (formed k a b) ≡ Fits v → merge_cells k a b ≤ most_members
unfolding merge_cells
merge_cells_lem k a b v e = go (is_nothing a || is_nothing b) (short_members k (formed k a b) (fit_short (formed k a b) v e))
  where
    go : (t : Bool) → members k (formed k a b) ≤ most_members → cond t 0 (members k (formed k a b) - 1) ≤ most_members
    go true h = omega arith
    go false h = omega arith

pub node_cells_lem : {n : Node} {s : List ℕ} {top a b : ℕ} (v : Re) → Operands n s top a b → made n (term s a) (term s b) ≡ Fits v
    → node_cells n (term s a) (term s b) ≤ 3 + most_members / 2 * takes n
node_cells_lem {n} {s} {top} {a} {b} v = go n
  where
    go : (m : Node) → Operands m s top a b → made m (term s a) (term s b) ≡ Fits v
        → node_cells m (term s a) (term s b) ≤ 3 + most_members / 2 * takes m
    go Nothing o e = omega arith
    go Empty o e = omega arith
    go (Range lo hi) o e = omega arith
    go Cat o e = omega (arith, cat_few (term s a) (term s b), short_members Then (term s a) (o.below (omega arith)).is_short)
    go Alt o e = omega (arith, merge_cells_lem Or (term s a) (term s b) v e)
    go Star o e = omega arith
    go (Either x) o e = omega arith
    go And o e = omega (arith, merge_cells_lem Both (term s a) (term s b) v e)
    go Not o e = omega arith
