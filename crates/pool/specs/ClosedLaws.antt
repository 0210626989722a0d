-- A pool holds with a term all its parts, since the children of a node stand below it.
-- So putting terms that it holds already leaves it as it is.
use Rattle.std.specs.Prelude.{ℕ, ◌<◌, refl, List, [], ◌∷◌, map, get_or}
use Rattle.std.proofs.Common.{arith}
use Rattle.meaning.specs.Re.{Re, parts}
use Rattle.meaning.specs.PartLaws.{All}
use Rattle.term.specs.Cells.{node_of, term, Sound}
use Rattle.term.specs.Nodes.{children_of}
use Rattle.term.specs.ReadLaws.{parts_grow, below_children}
use Rattle.term.specs.CellLaws.{term_node}
use Rattle.walk.specs.Parts.{PartOf, InPool, Closed}
use Rattle.walk.specs.Parts.PartOf.{here, inside, later}
use Rattle.pool.specs.Pooled.{terms_of}
use Rattle.pool.specs.PoolLaws.{Stands, held_stands, term_held_below}
use Rattle.pool.specs.NodeLaws.{below_more}

module _ (s : List ℕ) (top : ℕ) where
  children_stand : (js : List ℕ) → All (λ j. j < top) js → All (Stands s top) (map (term s) js)
  children_stand [] h = tt
  children_stand (j ∷ js) h = (record { at = j; within = h.0; is = refl }, children_stand js h.1)

  module _ (ok : Sound s top) where
    parts_stand : {r : Re} → Stands s top r → All (Stands s top) (parts r)
    parts_stand t =
        let u = node_of (get_or s t.at 0) in
        let b = below_more u t.at top (ok.nodes t.at t.within) (omega (arith, t.within)) in
        rw (← t.is, term_node s top t.at ok t.within, parts_grow u (term s)) (children_stand (children_of u) (below_children u top b))

    part_held : {x : Re} {rs : List Re} → PartOf x rs → All (Stands s top) rs → InPool (terms_of s top) x
    part_held (here e) h = rw (e, ← h.0.is) (term_held_below s top h.0.at h.0.within)
    part_held (inside p) h = part_held p (parts_stand h.0)
    part_held (later p) h = part_held p h.1

    pub pool_closed : Closed (terms_of s top)
    pool_closed = record { inner = λ x r h p. part_held p (parts_stand (held_stands s top r h)) }
