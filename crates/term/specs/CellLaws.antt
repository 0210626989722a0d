-- Laws of cells, proved: a stored node is read back, and a term below top stays what it is however the cells above change.
-- Callers go by `found`, `frame` and the laws of growth and of what was made; none looks into a cell.
use Rattle.std.specs.Prelude.{ℕ, zero, suc, ◌+◌, ◌/◌, ◌%◌, ◌<◌, ◌≤◌, ◌≡◌, refl, Bool, true, false, List, ◌≢◌, eqb, length, get_or, set}
use Rattle.std.proofs.Common.{arith, sym, ap, ◌∙◌, length-set, get_or-set_same, get_or-set_other, below_more}
use mir.Val.{bool_byte}
use Rattle.number.specs.Limits.{work_cells}
use Rattle.meaning.specs.Re.{Re, is_nothing, is_empty}
use Rattle.meaning.specs.Derive.{nullable}
use Rattle.term.specs.declared.Term.{Term}
use Rattle.term.specs.declared.Term.TheVariants.{Nothing, Empty, Range, Cat, Alt, Star, And, Not}
use Rattle.term.specs.Cells.{field_size, kind_size, first, second, bit_place, link_of, empty_of, node_of, grow, term_by, term, Below, Layered, Sound}
use Rattle.term.specs.Area.{Wasted, GrownFree, Grown, Room, MakesFree, Makes}
use Rattle.term.specs.Nodes.{kind_of, first_of, second_of, Fields, cell_of, nothing_node, empty_node, Found, Held}
use Rattle.term.specs.ReadLaws.{kind_most, rebuild, grow_agree}

-- ---- a cell gives its node back

pub bit_small : (empty : Bool) → bool_byte empty < 2
bit_small true = omega arith
bit_small false = omega arith

bit_back : (empty : Bool) → eqb (bool_byte empty) 1 ≡ empty
bit_back true = refl
bit_back false = refl

module _ (link : ℕ) (empty : Bool) where
  module _ (u : Term) (f : Fields u) where
    kind_cell : cell_of u link empty % kind_size ≡ kind_of u
    unfolding cell_of
    kind_cell = omega (arith, kind_most u)

    first_cell : first (cell_of u link empty) ≡ first_of u
    unfolding cell_of
    first_cell = omega (arith, kind_most u, f.first)

    second_cell : second (cell_of u link empty) ≡ second_of u
    unfolding cell_of
    second_cell = omega (arith, kind_most u, f.first, f.second)

    module _ (h : link < field_size) where
      link_cell : link_of (cell_of u link empty) ≡ link
      unfolding cell_of link_of
      link_cell = omega (arith, kind_most u, f.first, f.second)

      bit_cell : cell_of u link empty / bit_place % 2 ≡ bool_byte empty
      unfolding cell_of
      bit_cell = omega (arith, kind_most u, f.first, f.second, bit_small empty)

      empty_cell : empty_of (cell_of u link empty) ≡ empty
      unfolding empty_of
      empty_cell = rw bit_cell (bit_back empty)

  node_cell : (u : Term) → Fields u → node_of (cell_of u link empty) ≡ u
  unfolding node_of
  node_cell u f = rw (kind_cell u f, first_cell u f, second_cell u f) (sym (rebuild u))

-- a node that may stand in a cell of the area fits a cell
pub below_fields : (u : Term) (i : ℕ) → i < work_cells → Below u i → Fields u
below_fields Nothing i h b = record { first = omega arith; second = omega arith }
below_fields Empty i h b = record { first = omega arith; second = omega arith }
below_fields (Range lo hi) i h b = record { first = omega arith; second = omega arith }
below_fields (Cat l r) i h b = record { first = omega arith; second = omega arith }
below_fields (Alt l r) i h b = record { first = omega arith; second = omega arith }
below_fields (Star l) i h b = record { first = omega arith; second = omega arith }
below_fields (And l r) i h b = record { first = omega arith; second = omega arith }
below_fields (Not l) i h b = record { first = omega arith; second = omega arith }

-- ---- terms by their cells

-- the same cells below top
abbrev pub Same : List ℕ → List ℕ → ℕ → Type 0
Same s s' top = (j : ℕ) → j < top → get_or s' j 0 ≡ get_or s j 0

-- steps enough are enough, and cells from top on do not matter
agree : (n m : ℕ) (s s' : List ℕ) (top i : ℕ) → Layered s top → Same s s' top → i < top → i < n → i < m → term_by n s' i ≡ term_by m s i
unfolding term_by
agree zero m s s' top i ok same h k l = absurd (omega arith)
agree (suc n) zero s s' top i ok same h k l = absurd (omega arith)
agree (suc n) (suc m) s s' top i ok same h k l =
    ap (λ (c : ℕ). grow (node_of c) (term_by n s')) (same i h)
    ∙ grow_agree (node_of (get_or s i 0)) i (term_by n s') (term_by m s) (ok i h)
    (λ j b. agree n m s s' top j ok same (omega arith) (omega arith) (omega arith))

-- the frame: a term below top is that of its cells below top
pub frame : (s s' : List ℕ) (top i : ℕ) → Sound s top → Same s s' top → i < top → term s' i ≡ term s i
unfolding term
frame s s' top i ok same h = agree (suc i) (suc i) s s' top i ok.nodes same h (omega arith) (omega arith)

-- a node's term by its children's terms
layer_node : (s : List ℕ) (top i : ℕ) → Layered s top → i < top → term s i ≡ grow (node_of (get_or s i 0)) (term s)
unfolding term term_by
layer_node s top i ok h =
    grow_agree (node_of (get_or s i 0)) i (term_by i s) (term s) (ok i h)
    (λ j b. agree i (suc j) s s top j ok (λ k l. refl) (omega arith) b (omega arith))

pub term_node : (s : List ℕ) (top i : ℕ) → Sound s top → i < top → term s i ≡ grow (node_of (get_or s i 0)) (term s)
term_node s top i ok h = layer_node s top i ok.nodes h

-- what node_at tells
pub found : (s : List ℕ) (top i : ℕ) (u : Term) → Sound s top → i < top → u ≡ node_of (get_or s i 0) → Found s i u
found s top i u ok h e = rw e (record { below = ok.nodes i h; is = term_node s top i ok h })

pub found_nothing : (s : List ℕ) (i : ℕ) (u : Term) → Found s i u → is_nothing (term s i) ≡ nothing_node u
found_nothing s i u f = rw f.is (go u)
  where
    go : (v : Term) → is_nothing (grow v (term s)) ≡ nothing_node v
    go Nothing = refl
    go Empty = refl
    go (Range lo hi) = refl
    go (Cat a b) = refl
    go (Alt a b) = refl
    go (Star a) = refl
    go (And a b) = refl
    go (Not a) = refl

pub found_empty : (s : List ℕ) (i : ℕ) (u : Term) → Found s i u → is_empty (term s i) ≡ empty_node u
found_empty s i u f = rw f.is (go u)
  where
    go : (v : Term) → is_empty (grow v (term s)) ≡ empty_node v
    go Nothing = refl
    go Empty = refl
    go (Range lo hi) = refl
    go (Cat a b) = refl
    go (Alt a b) = refl
    go (Star a) = refl
    go (And a b) = refl
    go (Not a) = refl

-- ---- the area and its growth

-- an area in which nothing stands yet
pub sound_none : (s : List ℕ) → length s ≤ work_cells → Sound s 0
sound_none s h = record { nodes = λ i k. absurd (omega arith); bits = λ i k. absurd (omega arith); room = omega arith; small = h }

-- an area that is changed from top on only, as by terms above it that are given up
pub sound_same : {s : List ℕ} {top : ℕ} (s' : List ℕ) → Sound s top → Same s s' top → length s' ≡ length s → Sound s' top
sound_same {s} {top} s' ok same e =
    record {
      nodes = λ i h. rw (same i h) (ok.nodes i h);
      bits = λ i h. rw (same i h, frame s s' top i ok same h) (ok.bits i h);
      room = omega arith;
      small = omega arith;
    }

pub sound_less : {s : List ℕ} {top : ℕ} (less : ℕ) → Sound s top → less ≤ top → Sound s less
sound_less less ok h =
    record {
      nodes = λ i k. ok.nodes i (omega arith);
      bits = λ i k. ok.bits i (omega arith);
      room = omega arith;
      small = ok.small;
    }

pub grown_refl : {free : ℕ} {s : List ℕ} {top : ℕ} → Sound s top → GrownFree free s top s top
grown_refl ok =
    record {
      up = omega arith;
      same_length = refl;
      kept_below = λ i h. refl;
      kept_above = λ i h. refl;
      sound = ok;
    }

pub grown_trans : {free : ℕ} {s s' s'' : List ℕ} {top top' top'' : ℕ} → GrownFree free s top s' top' → GrownFree free s' top' s'' top''
    → GrownFree free s top s'' top''
grown_trans g h =
    record {
      up = omega arith;
      same_length = h.same_length ∙ g.same_length;
      kept_below = λ i k. h.kept_below i (omega arith) ∙ g.kept_below i k;
      kept_above = λ i k. h.kept_above i k ∙ g.kept_above i (omega arith);
      sound = h.sound;
    }

-- a growth may be told with more cells free, and what comes to waste above the top is a growth by no cell
pub grown_free : (free : ℕ) {s s' : List ℕ} {top top' : ℕ} → Grown s top s' top' → GrownFree free s top s' top'
grown_free free g =
    record {
      up = g.up;
      same_length = g.same_length;
      kept_below = g.kept_below;
      kept_above = λ i k. g.kept_above i (omega arith);
      sound = g.sound;
    }

pub wasted_grown : {free : ℕ} {s s' : List ℕ} {top : ℕ} → Sound s top → Wasted s top s' (top + free) → GrownFree free s top s' top
wasted_grown {s' = s'} ok w =
    record {
      up = omega arith;
      same_length = w.same_length;
      kept_below = w.kept_below;
      kept_above = w.kept_above;
      sound = sound_same s' ok w.kept_below w.same_length;
    }

-- the cells that are left after a growth of at most `used` cells
pub room_after : {free : ℕ} {s s' : List ℕ} {top top' : ℕ} (used more : ℕ) → GrownFree free s top s' top' → top' ≤ top + used
    → Room s top (used + more) → Room s' top' more
room_after used more g h r = omega arith

-- a term that stood below the old top
pub grown_term : {free : ℕ} {s s' : List ℕ} {top top' : ℕ} (i : ℕ) → GrownFree free s top s' top' → Sound s top → i < top → term s' i ≡ term s i
grown_term {free} {s} {s'} {top} i g ok h = frame s s' top i ok g.kept_below h

-- ---- what was made

-- a term that stands already is made with no cell
pub makes_old : {free : ℕ} {s : List ℕ} {top : ℕ} (i more : ℕ) (v : Re) → Sound s top → i < top → term s i ≡ v
    → MakesFree free s top s i top v more
makes_old i more v ok h e = record { grown = grown_refl ok; within = h; is = e; few = omega arith }

-- a larger bound, another name of the term
pub makes_more : {free : ℕ} {s s' : List ℕ} {top root top' more : ℕ} {v : Re} (most : ℕ) → MakesFree free s top s' root top' v more → more ≤ most
    → MakesFree free s top s' root top' v most
makes_more most m h = record { grown = m.grown; within = m.within; is = m.is; few = omega arith }

pub makes_as : {free : ℕ} {s s' : List ℕ} {top root top' more : ℕ} {v : Re} (w : Re) → MakesFree free s top s' root top' v more → v ≡ w
    → MakesFree free s top s' root top' w more
makes_as w m e = record { grown = m.grown; within = m.within; is = m.is ∙ e; few = m.few }

pub makes_free : (free : ℕ) {s s' : List ℕ} {top root top' more : ℕ} {v : Re} → Makes s top s' root top' v more
    → MakesFree free s top s' root top' v more
makes_free free m = record { grown = grown_free free m.grown; within = m.within; is = m.is; few = m.few }

-- made after a growth of at most `before` cells
pub makes_after : {free : ℕ} {s s' s'' : List ℕ} {top top' root top'' more : ℕ} {v : Re} (before : ℕ) → GrownFree free s top s' top'
    → top' ≤ top + before → MakesFree free s' top' s'' root top'' v more → MakesFree free s top s'' root top'' v (before + more)
makes_after before g h m = record { grown = grown_trans g m.grown; within = m.within; is = m.is; few = omega arith }

-- made, and still there after a growth of at most `after` cells
pub makes_kept : {free : ℕ} {s s' s'' : List ℕ} {top top' root top'' more : ℕ} {v : Re} (after : ℕ) → MakesFree free s top s' root top' v more
    → GrownFree free s' top' s'' top'' → top'' ≤ top' + after → MakesFree free s top s'' root top'' v (more + after)
makes_kept {free} {s} {s'} {s''} {top} {top'} {root} after m g h =
    record {
      grown = grown_trans m.grown g;
      within = omega arith;
      is = grown_term root g m.grown.sound m.within ∙ m.is;
      few = omega arith;
    }

-- ---- a stored node

module _ (s : List ℕ) (top : ℕ) (u : Term) (link : ℕ) (empty : Bool) (s' : List ℕ) (ok : Sound s top) (h : top < length s) (b : Below u top)
    (l : link < field_size) (t : empty ≡ nullable (grow u (term s))) (e : s' ≡ set s top (cell_of u link empty)) where
  here : get_or s' top 0 ≡ cell_of u link empty
  here = rw e (get_or-set_same s top (cell_of u link empty) 0 h)

  other : (i : ℕ) → i ≢ top → get_or s' i 0 ≡ get_or s i 0
  other i d = rw e (get_or-set_other s top i (cell_of u link empty) 0 d)

  same : Same s s' top
  same i k = other i (λ z. omega arith)

  long : length s' ≡ length s
  long = rw e (length-set s top (cell_of u link empty))

  fits : Fields u
  fits = below_fields u top (omega (arith, ok.small)) b

  node : node_of (get_or s' top 0) ≡ u
  node = rw here (node_cell link empty u fits)

  layered : Layered s' (top + 1)
  layered i k = below_more (λ (j : ℕ). Below (node_of (get_or s' j 0)) j) top (λ j m. rw (same j m) (ok.nodes j m)) (rw node b) i k

  is : term s' top ≡ grow u (term s)
  is =
      layer_node s' (top + 1) top layered (omega arith)
      ∙ rw node (grow_agree u top (term s') (term s) b (λ j k. frame s s' top j ok same k))

  bits : (i : ℕ) → i < top + 1 → empty_of (get_or s' i 0) ≡ nullable (term s' i)
  bits i k =
      below_more (λ (j : ℕ). empty_of (get_or s' j 0) ≡ nullable (term s' j)) top
      (λ j m. rw (same j m, frame s s' top j ok same m) (ok.bits j m)) (rw (here, is) (empty_cell link empty u fits l ∙ t)) i k

  pub held : Held s top u link s' (top + 1)
  held =
      record {
        after = refl;
        node = node;
        linked = rw here (link_cell link empty u fits l);
        makes = record {
          grown = record {
            up = omega arith;
            same_length = long;
            kept_below = same;
            kept_above = λ i k. other i (λ z. omega arith);
            sound = record { nodes = layered; bits = bits; room = omega (arith, long); small = omega (arith, long, ok.small) };
          };
          within = omega arith;
          is = is;
          few = omega arith;
        };
      }
