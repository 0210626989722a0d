-- Laws for chain, cat, star and negated, one for each of their returns, calls and turns: what the node told, and what a callee made, is what is asked.
-- cat makes nothing new unless both sides are more than Empty.
use Rattle.std.specs.Prelude.{ℕ, ◌+◌, ◌<◌, ◌≤◌, ◌≡◌, Bool, true, false, cond, ◌||◌, List, length, get_or, set}
use Rattle.std.proofs.Common.{arith, sym, ap, ◌∙◌}
use Rattle.std.proofs.Math.Path.{refl}
use Rattle.meaning.specs.declared.Join.TheVariants.{Then}
use Rattle.meaning.specs.Re.{Re, is_nothing, is_empty}
use Rattle.meaning.specs.Normal.{chain, cat, star, negated}
use Rattle.meaning.specs.JoinLaws.{chain_one}
use Rattle.meaning.proofs.ShapeLaws.{cat_chain}
use Rattle.meaning.specs.Tests.{clash, is_nothing_lem, is_empty_lem}
use Rattle.term.specs.declared.Term.{Term}
use Rattle.term.specs.declared.Term.TheVariants.{Nothing, Empty, Range, Cat, Alt, Star, And, Not}
use Rattle.term.specs.Cells.{node_of, grow, term, Sound}
use Rattle.term.specs.Area.{Makes}
use Rattle.term.specs.Nodes.{kind_of, first_of, second_of, Found}
use Rattle.term.specs.Counts.{Countable}
use Rattle.term.specs.CellLaws.{found, makes_old, makes_more, makes_as}
use Rattle.term.specs.ReadLaws.{of_kind, found_kind}
use Rattle.normal.specs.Asked.{members, plain, cat_cells, Links, CountedLinks}
use Rattle.normal.specs.NodeLaws.{Joins, told_joins, told_single, members_some, members_rest}
use Rattle.normal.specs.NestLaws.{listing_first, listing_next, listing_asks, listing_made}
use Rattle.term.specs.declared.Built.{Built}
use Rattle.normal.specs.Nest.{joins_node, Listing, Lists, Nests}
use Rattle.normal.specs.Builds.{Chains, Cats}
use Rattle.normal.specs.AnswerLaws.{made_counts}

-- ---- chain

chain_cat : (s : List ℕ) (a x y : ℕ) (z : Re) → Joins Then s a x y → chain (term s a) z ≡ Re.Cat (term s x) (chain (term s y) z)
unfolding chain
chain_cat s a x y z f = rw f.is

-- on the way: the members before cell last are listed from top to end
pub record Chaining (s : List ℕ) (top a b : ℕ) (l : List ℕ) (last end : ℕ) : Type 0 where
  pub held : last < top
  pub listing : Listing Then s top l end (chain (term s a) (term s b)) (chain (term s last) (term s b))
  pub count : end + members Then (term s last) ≤ top + members Then (term s a)

module _ {s : List ℕ} {top a b : ℕ} (asked : Links s top a b) where
  pub chaining_first : Chaining s top a b s a top
  chaining_first = record { held = asked.left; listing = listing_first Then s top (chain (term s a) (term s b)); count = omega arith }

  module _ {l : List ℕ} {last end : ℕ} (t : Chaining s top a b l last end) where
    pub last_inside : last < length l
    last_inside = omega (arith, t.held, asked.sound.room, t.listing.wasted.same_length)

    room : end < length s
    room = omega (arith, asked.room, t.count, members_some Then (term s last))

    pub end_inside : end < length l
    end_inside = omega (arith, room, t.listing.wasted.same_length)

    module _ {u : Term} {p : Bool} (e : u ≡ node_of (get_or l last 0)) (d : p ≡ joins_node Then u) where
      here : Found s last u
      here = found s top last u asked.sound t.held (e ∙ ap node_of (t.listing.wasted.kept_below last t.held))

      -- a link more
      module _ {x y : ℕ} (yes : p ≡ true) (f : x ≡ first_of u) (g : y ≡ second_of u) where
        link : Joins Then s last x y
        link = told_joins Then here d yes f g

        pub chain_falls : y < last
        chain_falls = link.rest

        pub chaining_next : Chaining s top a b (set l end x) y (end + 1)
        chaining_next =
            record {
              held = omega (arith, chain_falls, t.held);
              listing =
                  listing_next t.listing x (chain (term s y) (term s b)) (omega (arith, link.first, t.held)) room (chain_cat s last x y (term s b) link);
              count = omega (arith, t.count, ap (members Then) link.is, members_rest Then (term s x) (term s y));
            }

      -- the last member
      module _ (no : p ≡ false) where
        all : Listing Then s top (set l end last) (end + 1) (chain (term s a) (term s b)) (term s b)
        all = listing_next t.listing last (term s b) t.held room (chain_one (term s last) (term s b) (told_single Then here d no))

        pub chain_asks : Lists (set l end last) top (end + 1) b
        chain_asks = listing_asks all asked.sound asked.right (omega (arith, room))

        pub chain_made : {s' : List ℕ} {r : Built} → Nests Then (set l end last) top (end + 1) b s' r → Chains s top a b s' r
        chain_made m = makes_more (members Then (term s a)) (listing_made all asked.sound asked.right refl m)
            (omega (arith, t.count, members_some Then (term s last)))

-- ---- cat

cat_nothing_left : (a b : Re) → is_nothing a ≡ true → a ≡ cat a b
unfolding cat
cat_nothing_left a b e = rw e (is_nothing_lem a e)

cat_nothing_right : (a b : Re) → is_nothing a ≡ false → is_nothing b ≡ true → b ≡ cat a b
unfolding cat
cat_nothing_right a b d e = rw (d, e) (is_nothing_lem b e)

cat_empty_left : (a b : Re) → is_nothing a ≡ false → is_nothing b ≡ false → is_empty a ≡ true → b ≡ cat a b
unfolding cat
cat_empty_left a b d e f = rw (d, e, f)

cat_empty_right : (a b : Re) → is_nothing a ≡ false → is_nothing b ≡ false → is_empty a ≡ false → is_empty b ≡ true → a ≡ cat a b
unfolding cat
cat_empty_right a b d e f g = rw (d, e, f, g)

cat_full : (a b : Re) → is_nothing a ≡ false → is_nothing b ≡ false → is_empty a ≡ false → is_empty b ≡ false → members Then a ≡ cat_cells a b
unfolding cat_cells
cat_full a b d e f g = rw (d, e, f, g)

module _ {s : List ℕ} {top a b : ℕ} (l : Links s top a b) where
  pub cat_none_left : is_nothing (term s a) ≡ true → Makes s top s a top (cat (term s a) (term s b)) (cat_cells (term s a) (term s b))
  cat_none_left e = makes_old a _ _ l.sound l.left (cat_nothing_left (term s a) (term s b) e)

  module _ (x : is_nothing (term s a) ≡ false) where
    pub cat_none_right : is_nothing (term s b) ≡ true → Makes s top s b top (cat (term s a) (term s b)) (cat_cells (term s a) (term s b))
    cat_none_right e = makes_old b _ _ l.sound l.right (cat_nothing_right (term s a) (term s b) x e)

    module _ (y : is_nothing (term s b) ≡ false) where
      pub cat_skip_left : is_empty (term s a) ≡ true → Makes s top s b top (cat (term s a) (term s b)) (cat_cells (term s a) (term s b))
      cat_skip_left e = makes_old b _ _ l.sound l.right (cat_empty_left (term s a) (term s b) x y e)

      module _ (v : is_empty (term s a) ≡ false) where
        pub cat_skip_right : is_empty (term s b) ≡ true → Makes s top s a top (cat (term s a) (term s b)) (cat_cells (term s a) (term s b))
        cat_skip_right e = makes_old a _ _ l.sound l.left (cat_empty_right (term s a) (term s b) x y v e)

        pub cat_both : is_empty (term s b) ≡ false → {s' : List ℕ} {root top' : ℕ}
            → Makes s top s' root top' (chain (term s a) (term s b)) (members Then (term s a))
            → Makes s top s' root top' (cat (term s a) (term s b)) (cat_cells (term s a) (term s b))
        cat_both w m =
            makes_as _ (makes_more _ m (omega (arith, cat_full (term s a) (term s b) x y v w)))
            (sym (cat_chain (term s a) (term s b) x v y w))

-- the bound as a caller counts it, and where nothing is made
pub cat_few : (a b : Re) → cat_cells a b ≤ members Then a
unfolding cat_cells
cat_few a b = go (plain a || plain b)
  where
    go : (t : Bool) → cond t 0 (members Then a) ≤ members Then a
    go true = omega arith
    go false = omega arith

pub cat_counts : {s : List ℕ} {top a b : ℕ} → CountedLinks s top a b → {s' : List ℕ} {made : Built} → Cats s top a b s' made
    → Countable s' made.top made.root
cat_counts {s} {top} {a} {b} l m = made_counts m (omega (arith, l.count_room, cat_few (term s a) (term s b)))

pub cat_idle_left : (a b : Re) → plain a ≡ true → cat_cells a b ≡ 0
unfolding cat_cells
cat_idle_left a b e = rw e

-- ---- star

star_more : (u : Term) (f : ℕ → Re) → is_nothing (grow u f) ≡ false → is_empty (grow u f) ≡ false → (kind_of u ≡ 5 → ⊥)
    → Re.Star (grow u f) ≡ star (grow u f)
unfolding star
star_more Nothing f m n h = absurd (clash refl m)
star_more Empty f m n h = absurd (clash refl n)
star_more (Range lo hi) f m n h = refl
star_more (Cat a b) f m n h = refl
star_more (Alt a b) f m n h = refl
star_more (Star a) f m n h = absurd (h refl)
star_more (And a b) f m n h = refl
star_more (Not a) f m n h = refl

module _ {s : List ℕ} {a : ℕ} {u : Term} (f : Found s a u) {top : ℕ} where
  pub star_nothing : is_nothing (term s a) ≡ true → {s' : List ℕ} {root top' : ℕ} → Makes s top s' root top' Re.Empty 1
      → Makes s top s' root top' (star (term s a)) 1
  unfolding star
  star_nothing e m = makes_as (star (term s a)) m (rw (is_nothing_lem (term s a) e))

  pub star_empty : Sound s top → a < top → is_empty (term s a) ≡ true → Makes s top s a top (star (term s a)) 1
  unfolding star
  star_empty ok h e = makes_old a 1 (star (term s a)) ok h (rw (is_empty_lem (term s a) e))

  pub star_star : Sound s top → a < top → kind_of u ≡ 5 → Makes s top s a top (star (term s a)) 1
  unfolding star
  star_star ok h k = makes_old a 1 (star (term s a)) ok h (rw (f.is, of_kind u 5 k))

  pub star_new : is_nothing (term s a) ≡ false → is_empty (term s a) ≡ false → (kind_of u ≡ 5 → ⊥) → {s' : List ℕ} {root top' : ℕ}
      → Makes s top s' root top' (Re.Star (term s a)) 1 → Makes s top s' root top' (star (term s a)) 1
  star_new x y n m = makes_as (star (term s a)) m (rw f.is (star_more u (term s) (rw f.is at x) (rw f.is at y) n))

-- ---- negated

negated_more : (u : Term) (f : ℕ → Re) → (kind_of u ≡ 7 → ⊥) → Re.Not (grow u f) ≡ negated (grow u f)
unfolding negated
negated_more Nothing f h = refl
negated_more Empty f h = refl
negated_more (Range lo hi) f h = refl
negated_more (Cat a b) f h = refl
negated_more (Alt a b) f h = refl
negated_more (Star a) f h = refl
negated_more (And a b) f h = refl
negated_more (Not a) f h = absurd (h refl)

module _ {s : List ℕ} {a : ℕ} {u : Term} (f : Found s a u) {top : ℕ} where
  pub negated_not : Sound s top → a < top → kind_of u ≡ 7 → {x : ℕ} → x ≡ first_of u → Makes s top s x top (negated (term s a)) 1
  unfolding negated
  negated_not ok h k {x} e =
      let g = found_kind f k e refl in
      makes_old x 1 (negated (term s a)) ok (omega (arith, g.below)) (rw g.is)

  pub negated_new : (kind_of u ≡ 7 → ⊥) → {s' : List ℕ} {root top' : ℕ}
      → Makes s top s' root top' (Re.Not (term s a)) 1 → Makes s top s' root top' (negated (term s a)) 1
  negated_new n m = makes_as (negated (term s a)) m (rw f.is (negated_more u (term s) n))
