-- Laws for copying a term's nodes out, one for each place of the loop: how it begins, what a turn makes of it, and what its end tells.
-- In a turn the term that waits last is taken apart: its node is written, and its children wait in its place.
use Rattle.std.specs.Prelude.{ℕ, ◌+◌, ◌-◌, ◌<◌, ◌≤◌, ◌≡◌, refl, List, ◌∷◌, map, length, set, drop}
use Rattle.std.proofs.Common.{arith, sym, ◌∙◌, get_or-set_other, lt-ltb, le-ltb}
use Rattle.std.proofs.Math.Path.{ap}
use Rattle.std.proofs.Math.ListN.{get_or, length-set}
use Rattle.std.proofs.Math.Seq.{drop-set-lt}
use borrow.Author.Count.{below_more}
use Rattle.meaning.specs.Re.{Re, size, sizes}
use Rattle.meaning.specs.PartLaws.{size_some}
use Rattle.term.specs.declared.Term.{Term}
use Rattle.term.specs.Cells.{node_of, grow, term, Sound}
use Rattle.term.specs.Nodes.{first_of, second_of, arity_of, Found, TwoParts}
use Rattle.term.specs.Places.{terms_at}
use Rattle.term.specs.CellLaws.{found}
use Rattle.term.specs.ReadLaws.{one_part, two_parts, one_size, two_size}
use Rattle.term.specs.PlaceLaws.{set_there, set_other, terms_same, terms_last, terms_set, sizes_most, sizes_last}
use Rattle.walk.specs.Parts.{with_parts}
use Rattle.pool.specs.Pooled.{terms_of}
use Rattle.pool.specs.PoolLaws.{term_held_below}
use Rattle.pool.specs.ClosedLaws.{pool_closed}
use Rattle.pooling.specs.Postfix.{waits, all_wait, opened, with_all, Low, nodes_from}
use Rattle.pooling.specs.Copied.{Waited, Copied, Copying}
use Rattle.pooling.specs.PostfixLaws.{runs_opened, opened_sizes, nodes_at_lem, nodes_none}

-- ---- a child that is to wait

module _ (base child : ℕ) (o : List ℕ) (n : ℕ) where
  pub waited_not : child < base → Waited base child o n o n
  unfolding waits
  waited_not h =
      record {
        same_length = refl;
        most = omega arith;
        stack = λ f. rw (lt-ltb child base h);
        low = λ i k l. l;
        kept = λ k l. refl;
      }

  pub waited : (child < base → ⊥) → n < length o → Waited base child o n (set o n child) (n + 1)
  unfolding waits
  waited h k =
      record {
        same_length = length-set o n child;
        most = omega arith;
        stack = λ f. rw (le-ltb child base (omega arith)) (terms_set f o n child k);
        low = λ i l m.
            below_more (λ (j : ℕ). get_or (set o n child) j 0 < i) n (λ j b. rw (set_other o n child k j b) (m j b))
            (rw (set_there o n child k) l);
        kept = λ i l. drop-set-lt i o n child l;
      }

-- ---- a node by the number of its children

module _ (base : ℕ) (f : ℕ → Re) (u : Term) (vs : List Re) where
  opened_none : arity_of u ≡ 0 → opened base f u vs ≡ vs
  unfolding all_wait
  opened_none e = rw e

  opened_one : arity_of u ≡ 1 → opened base f u vs ≡ waits base f (first_of u) vs
  unfolding all_wait
  opened_one e = rw e

  opened_two : arity_of u ≡ 2 → opened base f u vs ≡ waits base f (second_of u) (waits base f (first_of u) vs)
  unfolding all_wait
  opened_two e = rw e

-- ---- the loop

pub copying_first : {s : List ℕ} {top i : ℕ} (o : List ℕ) → Sound s top → Sound s (i + 1) → size (term s i) ≤ length o
    → Copying s top i (length (set o 0 i)) (set o 0 i) (length o) 1
unfolding terms_at sizes with_all
copying_first {s} {top} {i} o pool sound h =
    let long = length-set o 0 i in
    let here : get_or (set o 0 i) 0 0 ≡ i = set_there o 0 i (omega (arith, size_some (term s i))) in
    record {
      pool = pool;
      sound = sound;
      fits = omega arith;
      same_length = refl;
      within = omega arith;
      few = rw here (omega arith);
      low = λ j k. let z : j ≡ 0 = omega arith in rw (z, here) (omega arith);
      runs = rw (here, nodes_none (set o 0 i) (length o) (omega arith)) (refl, refl);
    }

module _ {s : List ℕ} {top i long : ℕ} {o : List ℕ} {start n : ℕ} (t : Copying s top i long o start n) where
  pub copied : n ≡ 0 → Copied s top (term s i) o start
  unfolding terms_at sizes with_all
  copied z =
      record {
        within = omega (arith, t.within, t.same_length);
        few = omega (arith, t.few, t.same_length);
        runs = rw (z, terms_at, with_all) at t.runs;
      }

  -- a turn, in which the cell that waits last is taken
  module _ (some : 0 < n) where
    abbrev at : ℕ
    at = get_or o (n - 1) 0

    at_low : at < i + 1
    at_low = t.low (n - 1) (omega arith)

    rests : n - 1 + size (term s at) ≤ start
    rests = omega (arith, t.few, t.fits, sizes_last (term s) o n some, sizes_most (term s) o (n - 1))

    pub last_inside : n - 1 < length o
    last_inside = omega (arith, rests, t.within, t.same_length, size_some (term s at))

    pub start_some : 0 < start
    start_some = omega (arith, rests, size_some (term s at))

    pub at_inside : at < length s
    at_inside = omega (arith, at_low, t.sound.room)

    module _ {u : Term} (e : u ≡ node_of (get_or s at 0)) where
      here : Found s at u
      here = found s (i + 1) at u t.sound at_low e

      -- its node is written
      abbrev written : List ℕ
      written = set o (start - 1) (get_or s at 0)

      other : (j : ℕ) → j < n - 1 → get_or written j 0 ≡ get_or o j 0
      other j h = get_or-set_other o (start - 1) j (get_or s at 0) 0 (λ z. omega (arith, rests, size_some (term s at)))

      written_long : length written ≡ long
      written_long = length-set o (start - 1) (get_or s at 0) ∙ t.same_length

      written_stack : (f : ℕ → Re) → terms_at f written (n - 1) ≡ terms_at f o (n - 1)
      written_stack f = terms_same f f o written (n - 1) (λ j h. ap f (other j h))

      written_low : Low written (n - 1) (i + 1)
      written_low j h = rw (other j h) (t.low j (omega arith))

      written_nodes : nodes_from written (start - 1) ≡ u ∷ nodes_from o start
      written_nodes =
          let inside : start - 1 < length o = omega (arith, start_some, t.within, t.same_length) in
          let node : get_or written (start - 1) 0 ≡ get_or s at 0 = set_there o (start - 1) (get_or s at 0) inside in
          let next : start - 1 + 1 ≡ start = omega (arith, start_some) in
          let after : drop start written ≡ drop start o = drop-set-lt start o (start - 1) (get_or s at 0) (omega (arith, start_some)) in
          rw next at (nodes_at_lem written (start - 1) (omega (arith, written_long, t.same_length))) ∙ rw (e, node, after)

      -- once its children wait
      next : {o' : List ℕ} {n' : ℕ} → length o' ≡ long → Low o' n' (i + 1)
          → ((f : ℕ → Re) → terms_at f o' n' ≡ opened top f u (terms_at f o (n - 1))) → drop (start - 1) o' ≡ drop (start - 1) written
          → Copying s top i long o' (start - 1) n'
      unfolding sizes
      next {o'} {n'} l low stack d =
          let f = term s in
          let vs = terms_at f o (n - 1) in
          let first : terms_at f o n ≡ grow u f ∷ vs = terms_last f o n some ∙ ap (λ (v : Re). v ∷ vs) here.is in
          let before : sizes (terms_at f o n) ≡ size (grow u f) + sizes vs = ap sizes first in
          let now : sizes (terms_at f o' n') ≡ sizes (opened top f u vs) = ap sizes (stack f) in
          let nodes : nodes_from o' (start - 1) ≡ u ∷ nodes_from o start = ap (map node_of) d ∙ written_nodes in
          record {
            pool = t.pool;
            sound = t.sound;
            fits = t.fits;
            same_length = l;
            within = omega (arith, t.within);
            few = omega (arith, t.few, before, now, opened_sizes top f u vs, start_some);
            low = low;
            runs = rw (nodes, stack f)
                (runs_opened top f (terms_of s top) (pool_closed s top t.pool) (term_held_below s top) (term s i)
                (with_parts (terms_of s top) (term s i)) (nodes_from o start) vs u at here.below (rw first at t.runs));
          }

      pub leaf_next : arity_of u ≡ 0 → Copying s top i long written (start - 1) (n - 1)
      leaf_next k = next written_long written_low (λ f. written_stack f ∙ sym (opened_none top f u (terms_at f o (n - 1)) k)) refl

      pub first_inside : n - 1 < length written
      first_inside = omega (arith, last_inside, written_long, t.same_length)

      -- the first child waits, and then the second
      module _ {a : ℕ} (p : a ≡ first_of u) {o' : List ℕ} {n' : ℕ} (w : Waited top a written (n - 1) o' n') where
        waited_stack : (f : ℕ → Re) → terms_at f o' n' ≡ waits top f (first_of u) (terms_at f o (n - 1))
        waited_stack f = w.stack f ∙ rw (p, written_stack f)

        pub one_next : arity_of u ≡ 1 → Copying s top i long o' (start - 1) n'
        one_next k =
            let part = one_part here k p in
            next (w.same_length ∙ written_long) (w.low (i + 1) (omega (arith, part.below, at_low)) written_low)
            (λ f. waited_stack f ∙ sym (opened_one top f u (terms_at f o (n - 1)) k))
            (w.kept (start - 1) (omega (arith, rests, one_size part, size_some (term s a))))

        module _ {b : ℕ} (k : arity_of u ≡ 2) (q : b ≡ second_of u) where
          both : TwoParts s at a b
          both = two_parts here k p q

          room : n + 1 < start
          room = omega (arith, rests, two_size both, size_some (term s a), size_some (term s b))

          pub second_inside : n' < length o'
          second_inside = omega (arith, room, w.most, t.within, written_long, w.same_length)

          pub two_next : {o'' : List ℕ} {n'' : ℕ} → Waited top b o' n' o'' n'' → Copying s top i long o'' (start - 1) n''
          two_next x =
              let first_low = w.low (i + 1) (omega (arith, both.first, at_low)) written_low in
              next (x.same_length ∙ w.same_length ∙ written_long) (x.low (i + 1) (omega (arith, both.second, at_low)) first_low)
              (λ f. x.stack f ∙ rw (q, waited_stack f) (sym (opened_two top f u (terms_at f o (n - 1)) k)))
              (x.kept (start - 1) (omega (arith, room, w.most)) ∙ w.kept (start - 1) (omega (arith, room)))
