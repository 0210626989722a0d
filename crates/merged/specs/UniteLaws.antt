-- Laws for unite and merge: what a step of the merge asks and tells, and what was made.
-- A step lists at most one member, and what it leads to has fewer members than before.
use Rattle.std.specs.Prelude.{ℕ, ◌+◌, ◌-◌, ◌<◌, ◌≤◌, ◌≡◌, refl, Bool, true, false, cond, ◌||◌, List, length, set}
use Rattle.std.proofs.Common.{arith, sym, ap, ◌∙◌, length-set, get_or-set_other}
use Rattle.meaning.specs.declared.Join.{Join}
use Rattle.meaning.specs.declared.Join.TheVariants.{Then, Or, Both}
use Rattle.meaning.specs.Re.{Re, is_nothing}
use Rattle.meaning.specs.Normal.{formed}
use Rattle.meaning.specs.Shape.{InShape, Sorts, beside, united}
use Rattle.meaning.proofs.ShapeLaws.{formed_left, formed_right, formed_united, formed_members, beside_one, united_members}
use Rattle.meaning.specs.Limited.{short}
use Rattle.term.specs.Cells.{term}
use Rattle.term.specs.Area.{Makes}
use Rattle.term.specs.Counts.{Countable}
use Rattle.term.specs.CellLaws.{Same, frame, sound_same, sound_less, makes_old, makes_more, makes_as}
use Rattle.term.specs.declared.Built.{Built}
use Rattle.normal.specs.Asked.{members}
use Rattle.normal.specs.Nest.{Listing, Lists, Nests}
use Rattle.normal.specs.NodeLaws.{members_some, members_rest}
use Rattle.normal.specs.NestLaws.{listing_first, listing_next, listing_asks, listing_made}
use Rattle.normal.specs.AnswerLaws.{made_counts}
use Rattle.merged.specs.declared.Next.{Next}
use Rattle.merged.specs.declared.Next.TheVariants.{Whole, Pair, More}
use Rattle.merged.specs.Asked.{merge_cells, Sides, CountedSides, Enters, Meets, Unites}
use Rattle.merged.specs.Builds.{United, Merged}
use Rattle.merged.specs.Merge.{Stands, Pairs, Leads, Goes}

-- ---- unite

-- what a step tells
module _ {k : Join} {s : List ℕ} {a b : ℕ} {r : Next} (g : Goes k s a b r) where
  pub whole : {root : ℕ} → r ≡ Whole root → Stands k s a b root
  whole e = rw e at g.told

  pub pair : {first rest : ℕ} → r ≡ Pair first rest → Pairs k s a b first rest
  pair e = rw e at g.told

  pub more : {first left right : ℕ} → r ≡ More first left right → Leads k s a b first left right
  more e = rw e at g.told

enters_same : {s s' : List ℕ} {i : ℕ} → term s' i ≡ term s i → Enters s i → Enters s' i
enters_same e t = record { in_shape = rw e t.in_shape; is_short = rw e t.is_short; some = rw e t.some }

module _ {k : Join} {s : List ℕ} {top a b : ℕ} (l : Unites k s top a b) where
  pub meets : Meets k s a b
  meets =
      record {
        sorts = l.sorts;
        left_sound = sound_less (a + 1) l.sound (omega (arith, l.left_held));
        right_sound = sound_less (b + 1) l.sound (omega (arith, l.right_held));
        left = l.left;
        right = l.right;
      }

  more_asks : {h x y : ℕ} → Leads k s a b h x y → Unites k s top x y
  more_asks t =
      let low = t.low top l.left_held l.right_held in
      record {
        sorts = l.sorts;
        sound = l.sound;
        left_held = low.1.0;
        right_held = low.1.1;
        left = t.left_enters;
        right = t.right_enters;
        room = omega (arith, l.room, t.fewer);
      }

  -- cells above top do not matter
  unites_same : (s' : List ℕ) → Same s s' top → length s' ≡ length s → Unites k s' top a b
  unites_same s' same long =
      let p : term s' a ≡ term s a = frame s s' top a l.sound same l.left_held in
      let q : term s' b ≡ term s b = frame s s' top b l.sound same l.right_held in
      record {
        sorts = l.sorts;
        sound = sound_same s' l.sound same long;
        left_held = l.left_held;
        right_held = l.right_held;
        left = enters_same p l.left;
        right = enters_same q l.right;
        room = omega (arith, l.room, ap (members k) p, ap (members k) q);
      }

-- on the way: the members before the merge of left and right are listed from top to end
pub record Uniting (k : Join) (s : List ℕ) (top a b : ℕ) (l : List ℕ) (left right end : ℕ) : Type 0 where
  pub rest : Unites k l top left right
  pub listing : Listing k s top l end (united k (term s a) (term s b)) (united k (term l left) (term l right))
  pub count : end + members k (united k (term l left) (term l right)) ≤ top + members k (united k (term s a) (term s b))

module _ {k : Join} {s : List ℕ} {top a b : ℕ} (asked : Unites k s top a b) where
  pub uniting_first : Uniting k s top a b s a b top
  uniting_first = record { rest = asked; listing = listing_first k s top (united k (term s a) (term s b)); count = omega arith }

  module _ {l : List ℕ} {left right end : ℕ} (t : Uniting k s top a b l left right end) where
    -- a number below top is of the term that it was of
    old : (i : ℕ) → i < top → term l i ≡ term s i
    old i h = frame s l top i asked.sound t.listing.wasted.kept_below h

    -- the members that are left have room
    room : end + members k (united k (term l left) (term l right)) ≤ length s
    room =
        let x = asked.left in
        let y = asked.right in
        omega (
          arith,
          t.count,
          asked.room,
          united_members k asked.sorts (term s a) (term s b) x.in_shape y.in_shape x.some y.some,
        )

    -- nothing more is listed
    module _ {root : ℕ} (g : Stands k l left right root) where
      held : root < top
      held = g.low top t.rest.left_held t.rest.right_held

      stands : united k (term l left) (term l right) ≡ term s root
      stands = sym g.is ∙ old root held

      pub whole_asks : Lists l top end root
      whole_asks = listing_asks t.listing asked.sound held (omega (arith, room))

      pub whole_made : {s' : List ℕ} {r : Built} → Nests k l top end root s' r → United k s top a b s' r
      whole_made n =
          makes_more _ (listing_made t.listing asked.sound held stands n)
          (omega (arith, t.count, members_some k (united k (term l left) (term l right))))

    -- one member more
    module _ {h r : ℕ} (g : Pairs k l left right h r) where
      low : (h < top) × (r < top)
      low = g.low top t.rest.left_held t.rest.right_held

      two : members k (term l r) < members k (united k (term l left) (term l right))
      two = rw g.is (members_rest k (term l h) (term l r))

      pub pair_inside : end < length l
      pair_inside = omega (arith, room, two, t.listing.wasted.same_length)

      all : Listing k s top (set l end h) (end + 1) (united k (term s a) (term s b)) (term s r)
      all = listing_next t.listing h (term s r) low.0 (omega (arith, room, two)) (cc (g.is, old h low.0, old r low.1))

      pub pair_asks : Lists (set l end h) top (end + 1) r
      pair_asks = listing_asks all asked.sound low.1 (omega (arith, room, two))

      pub pair_made : {s' : List ℕ} {made : Built} → Nests k (set l end h) top (end + 1) r s' made → United k s top a b s' made
      pair_made n =
          makes_more _ (listing_made all asked.sound low.1 refl n) (omega (arith, t.count, two, members_some k (term l r)))

    -- a member, and the merge goes on
    module _ {h x y : ℕ} (g : Leads k l left right h x y) where
      next : Unites k l top x y
      next = more_asks t.rest g

      one_more : members k (united k (term l x) (term l y)) < members k (united k (term l left) (term l right))
      one_more = rw g.is (members_rest k (term l h) (united k (term l x) (term l y)))

      pub more_inside : end < length l
      more_inside = omega (arith, room, one_more, t.listing.wasted.same_length)

      pub uniting_next : Uniting k s top a b (set l end h) x y (end + 1)
      uniting_next =
          let l' = set l end h in
          let up = t.listing.up in
          let held = (g.low top t.rest.left_held t.rest.right_held).0 in
          let same : Same l l' top = λ j n. get_or-set_other l end j h 0 (λ z. omega arith) in
          let p : term l' x ≡ term l x = frame l l' top x next.sound same next.left_held in
          let q : term l' y ≡ term l y = frame l l' top y next.sound same next.right_held in
          let e : united k (term l' x) (term l' y) ≡ united k (term l x) (term l y) = cc (p, q) in
          record {
            rest = unites_same next l' same (length-set l end h);
            listing = listing_next t.listing h (united k (term l' x) (term l' y)) held (omega (arith, room, one_more))
                (cc (g.is, old h held, e));
            count = omega (arith, t.count, one_more, ap (members k) e);
          }

-- ---- merge

merge_full : (k : Join) (a b : Re) → is_nothing a ≡ false → is_nothing b ≡ false → members k (formed k a b) - 1 ≡ merge_cells k a b
unfolding merge_cells
merge_full k a b m n = rw (m, n)

-- a cell of one of two terms holds that one, and stands where both do
beside_cell : (k : Join) (s : List ℕ) (x y : ℕ) → term s (beside k x y) ≡ beside k (term s x) (term s y)
beside_cell Then s x y = refl
beside_cell Or s x y = refl
beside_cell Both s x y = refl

module _ {k : Join} {s : List ℕ} {top a b : ℕ} (l : Sides k s top a b) where
  -- with Nothing on a side nothing is made; r is the answer of beside
  module _ {r : ℕ} where
    pub none_left : is_nothing (term s a) ≡ true → r ≡ beside k a b
        → Makes s top s r top (formed k (term s a) (term s b)) (merge_cells k (term s a) (term s b))
    none_left e q =
        makes_old r _ _ l.sound (rw q (beside_one (λ i. i < top) k a b l.left l.right))
        (rw q (beside_cell k s a b) ∙ sym (formed_left k l.sorts (term s a) (term s b) l.right_shape e))

    pub none_right : is_nothing (term s b) ≡ true → r ≡ beside k b a
        → Makes s top s r top (formed k (term s a) (term s b)) (merge_cells k (term s a) (term s b))
    none_right e q =
        makes_old r _ _ l.sound (rw q (beside_one (λ i. i < top) k b a l.right l.left))
        (rw q (beside_cell k s b a) ∙ sym (formed_right k l.sorts (term s a) (term s b) l.left_shape e))

    -- and what stands there is short
    pub beside_short : r ≡ beside k a b → short (term s r) ≡ true
    beside_short q = rw q (beside_one (λ i. short (term s i) ≡ true) k a b l.left_short l.right_short)

    pub beside_short_right : r ≡ beside k b a → short (term s r) ≡ true
    beside_short_right q = rw q (beside_one (λ i. short (term s i) ≡ true) k b a l.right_short l.left_short)

  module _ (x : is_nothing (term s a) ≡ false) (y : is_nothing (term s b) ≡ false) where
    pub merge_asks : Unites k s top a b
    merge_asks =
        record {
          sorts = l.sorts;
          sound = l.sound;
          left_held = l.left;
          right_held = l.right;
          left = record { in_shape = l.left_shape; is_short = l.left_short; some = x };
          right = record { in_shape = l.right_shape; is_short = l.right_short; some = y };
          room = l.room;
        }

    pub merge_made : {s' : List ℕ} {r : Built} → United k s top a b s' r → Merged k s top a b s' r
    merge_made m =
        let e = formed_united k l.sorts (term s a) (term s b) l.left_shape l.right_shape x y in
        makes_as _ (makes_more _ m (omega (arith, ap (members k) e, merge_full k (term s a) (term s b) x y))) (sym e)

-- the bound as a caller counts it, and where nothing is made
pub merge_few : (k : Join) → Sorts k → (a b : Re) → InShape a → InShape b → merge_cells k a b ≤ members k a + members k b - 1
unfolding merge_cells
merge_few k o a b s t = go (is_nothing a || is_nothing b) (formed_members k o a b s t)
  where
    go : (n : Bool) → members k (formed k a b) ≤ members k a + members k b → cond n 0 (members k (formed k a b) - 1) ≤ members k a + members k b - 1
    go true h = omega arith
    go false h = omega arith

pub merge_counts : {k : Join} {s : List ℕ} {top a b : ℕ} → CountedSides k s top a b → {s' : List ℕ} {made : Built} → Merged k s top a b s' made
    → Countable s' made.top made.root
merge_counts {k} {s} {top} {a} {b} l m =
    made_counts m (omega (arith, l.count_room, merge_few k l.sides.sorts (term s a) (term s b) l.sides.left_shape l.sides.right_shape))

pub merge_idle_left : (k : Join) (a b : Re) → is_nothing a ≡ true → merge_cells k a b ≡ 0
unfolding merge_cells
merge_idle_left k a b e = rw e
