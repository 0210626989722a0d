-- Laws of members that are listed, turned around and nested: one for each place of the loops, and what listing and nesting make together.
-- Both operators go by the same laws.
use Rattle.std.specs.Prelude.{ℕ, zero, suc, ◌+◌, ◌-◌, ◌<◌, ◌≤◌, ◌≡◌, refl, List, ◌++◌, length, get_or, set, take, drop}
use Rattle.std.proofs.Common.{arith, sym, ap, ◌∙◌, length-set, length-take, length-drop, get_or-take, get_or-drop, get_or-set_same, get_or-set_other, below_more}
use Rattle.std.specs.List.{ReversedBelow}
use Rattle.std.proofs.lemmas.List.{get_or_append_left, get_or-append_right, length-append}
use Rattle.std.proofs.lemmas.List.Edits.{get_or-between}
use borrow.Rule.Slice.PartMut.{put_mid}
use Rattle.meaning.specs.declared.Join.{Join}
use Rattle.meaning.specs.declared.Join.TheVariants.{Then, Or, Both}
use Rattle.meaning.specs.Re.{Re}
use Rattle.meaning.specs.Normal.{joined}
use Rattle.term.specs.declared.Term.{Term}
use Rattle.term.specs.Cells.{grow, term, Below, Sound}
use Rattle.term.specs.Area.{Makes}
use Rattle.term.specs.Nodes.{Pushed}
use Rattle.term.specs.CellLaws.{frame, sound_same}
use Rattle.term.specs.declared.Built.{Built}
use Rattle.normal.specs.Nest.{join_node, nested, Listing, Lists, Turned, Nests, Nesting}

-- ---- joining

join_below : (k : Join) (x y i : ℕ) → x < i → y < i → Below (join_node k x y) i
join_below Then x y i g h = (g, h)
join_below Or x y i g h = (g, h)
join_below Both x y i g h = (g, h)

join_grow : (k : Join) (x y : ℕ) (f : ℕ → Re) → grow (join_node k x y) f ≡ joined k (f x) (f y)
join_grow Then x y f = refl
join_grow Or x y f = refl
join_grow Both x y f = refl

-- members that are the same are nested to the same term
nested_same : (k : Join) (s s' l l' : List ℕ) (top n : ℕ) (r : Re)
    → ((j : ℕ) → top ≤ j → j < top + n → term s' (get_or l' j 0) ≡ term s (get_or l j 0)) → nested k s' l' top n r ≡ nested k s l top n r
unfolding nested
nested_same k s s' l l' top zero r same = refl
nested_same k s s' l l' top (suc n) r same =
    rw (same (top + n) (omega arith) (omega arith))
    (nested_same k s s' l l' top n (joined k (term s (get_or l (top + n) 0)) r) (λ j g h. same j g (omega arith)))

nested_more : (k : Join) (s l : List ℕ) (top m n at : ℕ) (r : Re) → m ≡ suc n → at ≡ top + n
    → nested k s l top m r ≡ nested k s l top n (joined k (term s (get_or l at 0)) r)
unfolding nested
nested_more k s l top m n at r e d = rw (e, d, nested)

nested_none : (k : Join) (s l : List ℕ) (top n : ℕ) (r : Re) → n ≡ 0 → nested k s l top n r ≡ r
unfolding nested
nested_none k s l top n r e = rw (e, nested)

-- ---- turning around

-- the part of the cells from top to end is turned around by itself
module _ (s : List ℕ) {top end : ℕ} (ys : List ℕ) (up : top ≤ end) (room : end ≤ length s) where
  abbrev part : List ℕ
  part = take (end - top) (drop top s)

  abbrev after : List ℕ
  after = take top s ++ (ys ++ drop (end - top) (drop top s))

  part_long : length part ≡ end - top
  part_long = simp (length-take, length-drop) (omega arith)

  front_long : length (take top s) ≡ top
  front_long = simp length-take (omega arith)

  pub turned_around : length ys ≡ length part → ReversedBelow part ys (length part) → Turned s top end (put_mid top (end - top) s ys)
  turned_around long turned =
      let size : length ys ≡ end - top = long ∙ part_long in
      let behind : (i : ℕ) → top ≤ i → get_or after i 0 ≡ get_or (ys ++ drop (end - top) (drop top s)) (i - top) 0 =
      λ i h. get_or-append_right (take top s) (ys ++ drop (end - top) (drop top s)) top i 0 front_long h in
      record {
        wasted = record {
          same_length = simp (length-append, length-take, length-drop) (omega arith);
          kept_below = λ i h.
              get_or_append_left (take top s) (ys ++ drop (end - top) (drop top s)) 0 i (omega (arith, front_long)) ∙ get_or-take top s i 0 h;
          kept_above = λ i h.
              behind i (omega arith) ∙ get_or-append_right ys (drop (end - top) (drop top s)) (end - top) (i - top) 0 size (omega arith)
              ∙ get_or-drop (end - top) (drop top s) (i - top - (end - top)) 0 ∙ get_or-drop top s (end - top + (i - top - (end - top))) 0
              ∙ ap (λ (a : ℕ). get_or s a 0) (omega arith);
        };
        turned = λ j g h.
            behind j g ∙ get_or_append_left ys (drop (end - top) (drop top s)) 0 (j - top) (omega arith)
            ∙ turned (j - top) 0 (omega (arith, part_long)) ∙ get_or-between s top end (length part - 1 - (j - top)) 0 (omega (arith, part_long))
            ∙ ap (λ (a : ℕ). get_or s a 0) (omega (arith, part_long));
      }

-- ---- nesting

module _ {s : List ℕ} {top end tail : ℕ} (c : Lists s top end tail) where
  pub nesting_first : (k : Join) {l : List ℕ} → Turned s top end l → Nesting k s top end tail l top tail
  nesting_first k {l} t =
      record {
        up = omega arith;
        inside = c.up;
        sound = sound_same l c.sound t.wasted.kept_below t.wasted.same_length;
        wasted = t.wasted;
        turned = t.turned;
        within = c.held;
        is = ap (nested k s s top (end - top)) (frame s l top tail c.sound t.wasted.kept_below c.held);
      }

  module _ {k : Join} {l : List ℕ} {at root : ℕ} (t : Nesting k s top end tail l at root) where
    pub at_inside : at < end → at < length l
    at_inside h = omega (arith, t.wasted.same_length, c.room)

    -- the member at hand, and its node
    module _ (h : at < end) where
      first_low : get_or l at 0 < top
      first_low = rw (t.turned at (omega arith) h) (c.low (top + end - 1 - at) (omega (arith, t.up)) (omega (arith, t.up)))

      module _ {u : Term} (e : u ≡ join_node k (get_or l at 0) root) where
        pub node_low : Below u at
        node_low = rw e (join_below k (get_or l at 0) root at (omega (arith, first_low, t.up)) t.within)

        pub nesting_next : {l' : List ℕ} {next : ℕ} → Pushed l at u l' next → Nesting k s top end tail l' next at
        nesting_next {l'} {next} p =
            let g = p.makes.grown in
            let after = p.after in
            let up = t.up in
            let x = get_or l at 0 in
            let here : x ≡ get_or s (top + end - 1 - at) 0 = t.turned at (omega arith) h in
            let old : term l x ≡ term s x = frame s l top x c.sound t.wasted.kept_below first_low in
            let made : term l' at ≡ joined k (term s (get_or s (top + end - 1 - at) 0)) (term l root) =
            p.makes.is ∙ ap (λ (n : Term). grow n (term l)) e ∙ join_grow k x root (term l)
            ∙ ap (λ (v : Re). joined k v (term l root)) (old ∙ ap (term s) here) in
            record {
              up = omega arith;
              inside = omega arith;
              sound = g.sound;
              wasted = record {
                same_length = g.same_length ∙ t.wasted.same_length;
                kept_below = λ j q. g.kept_below j (omega arith) ∙ t.wasted.kept_below j q;
                kept_above = λ j q. g.kept_above j (omega arith) ∙ t.wasted.kept_above j q;
              };
              turned = λ j a b. g.kept_above j (omega arith) ∙ t.turned j (omega arith) b;
              within = omega arith;
              is = ap (nested k s s top (end - next)) made
                  ∙ sym (nested_more k s s top (end - at) (end - next) (top + end - 1 - at) (term l root) (omega arith) (omega arith)) ∙ t.is;
            }

    pub nested_all : end ≤ at → Nests k s top end tail l (record { root = root; top = end })
    nested_all n =
        let inside = t.inside in
        let all : at ≡ end = omega arith in
        record {
          after = refl;
          makes = record {
            grown = record {
              up = c.up;
              same_length = t.wasted.same_length;
              kept_below = t.wasted.kept_below;
              kept_above = λ j q. t.wasted.kept_above j (omega arith);
              sound = rw all at t.sound;
            };
            within = omega (arith, t.within);
            is = sym (nested_none k s s top (end - at) (term l root) (omega arith)) ∙ t.is;
            few = omega (arith, c.up);
          };
        }

-- ---- listing

pub listing_first : (k : Join) (s : List ℕ) (top : ℕ) (v : Re) → Listing k s top s top v v
listing_first k s top v =
    record {
      up = omega arith;
      low = λ j g h. absurd (omega arith);
      wasted = record { same_length = refl; kept_below = λ j h. refl; kept_above = λ j h. refl };
      is = nested_none k s s top (top - top) v (omega arith);
    }

module _ {k : Join} {s : List ℕ} {top : ℕ} {l : List ℕ} {end : ℕ} {v w : Re} (t : Listing k s top l end v w) where
  -- a member more
  pub listing_next : (x : ℕ) (r : Re) → x < top → end < length s → w ≡ joined k (term s x) r → Listing k s top (set l end x) (end + 1) v r
  listing_next x r low room e =
      let up = t.up in
      let l' = set l end x in
      let there : get_or l' end 0 ≡ x = get_or-set_same l end x 0 (omega (arith, t.wasted.same_length)) in
      let other : (j : ℕ) → (j ≡ end → ⊥) → get_or l' j 0 ≡ get_or l j 0 = λ j d. get_or-set_other l end j x 0 d in
      record {
        up = omega arith;
        low = λ j g h.
            below_more (λ (i : ℕ). top ≤ i → get_or l' i 0 < top) end (λ i b a. rw (other i (λ z. omega arith)) (t.low i a b)) (λ _. rw there low)
            j h g;
        wasted = record {
          same_length = length-set l end x ∙ t.wasted.same_length;
          kept_below = λ j h. other j (λ z. omega arith) ∙ t.wasted.kept_below j h;
          kept_above = λ j h. other j (λ z. omega arith) ∙ t.wasted.kept_above j (omega arith);
        };
        is = nested_more k s l' top (end + 1 - top) (end - top) end r (omega arith) (omega arith)
            ∙ nested_same k s s l l' top (end - top) _ (λ j g h. ap (term s) (other j (λ z. omega arith)))
            ∙ ap (nested k s l top (end - top)) (ap (λ (i : ℕ). joined k (term s i) r) there ∙ sym e) ∙ t.is;
      }

  -- no member more: what is left stands in cell tail
  module _ (ok : Sound s top) {tail : ℕ} (held : tail < top) where
    pub listing_asks : end ≤ length s → Lists l top end tail
    listing_asks room =
        record {
          sound = sound_same l ok t.wasted.kept_below t.wasted.same_length;
          up = t.up;
          room = omega (arith, t.wasted.same_length);
          low = t.low;
          held = held;
        }

    pub listing_made : w ≡ term s tail → {s' : List ℕ} {r : Built} → Nests k l top end tail s' r
        → Makes s top s' r.root r.top v (end - top)
    listing_made e n =
        let g = n.makes.grown in
        let after = n.after in
        let same : (i : ℕ) → i < top → term l i ≡ term s i = λ i h. frame s l top i ok t.wasted.kept_below h in
        record {
          grown = record {
            up = g.up;
            same_length = g.same_length ∙ t.wasted.same_length;
            kept_below = λ j h. g.kept_below j h ∙ t.wasted.kept_below j h;
            kept_above = λ j h. g.kept_above j h ∙ t.wasted.kept_above j (omega arith);
            sound = g.sound;
          };
          within = n.makes.within;
          is = n.makes.is
              ∙ nested_same k s l l l top (end - top) _ (λ j a b. same (get_or l j 0) (t.low j a (omega (arith, t.up))))
              ∙ ap (nested k s l top (end - top)) (same tail held ∙ sym e) ∙ t.is;
          few = n.makes.few;
        }
