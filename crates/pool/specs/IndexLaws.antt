-- Laws of the index: going along a chain finds a node or shows that no cell holds it, and a new cell goes to the front of its chain.
-- What the cells from top on hold does not matter to an index.
use Rattle.std.specs.Prelude.{ℕ, ◌+◌, ◌-◌, ◌<◌, ◌≤◌, ◌≡◌, Some, None, List, ◌≢◌, get_or, set, replicate}
use Rattle.std.proofs.Common.{arith, sym, ap, ◌∙◌, length-set, get_or-set_same, get_or-set_other}
use Rattle.std.proofs.Math.Decide.{dec_lt, ℕ_discrete}
use Rattle.std.proofs.lemmas.List.{length-replicate, get_or-replicate}
use Rattle.meaning.specs.Re.{Re}
use Rattle.term.specs.declared.Term.{Term}
use Rattle.term.specs.Cells.{link_of, node_of}
use Rattle.term.specs.CellLaws.{Same}
use Rattle.pool.specs.Index.{pool_cells, heads, hash_of, hash_at, Last, Indexed, Open, After}
use Rattle.pool.specs.Steps.{Looked}
use Rattle.pool.specs.PoolLaws.{pooled}

pub hash_small : (u : Term) → hash_of u < heads
unfolding hash_of
hash_small u = omega arith

-- ---- cells that stay

same_hash : (s s' : List ℕ) (top : ℕ) → Same s s' top → (k : ℕ) → k < top → hash_at s' k ≡ hash_at s k
same_hash s s' top same k h = ap (λ (c : ℕ). hash_of (node_of c)) (same k h)

last_same : (s s' : List ℕ) (top : ℕ) {hash end v : ℕ} → Same s s' top → end ≤ top → Last s hash end v → Last s' hash end v
last_same s s' top same h l =
    record {
      most = l.most;
      there = λ k. same_hash s s' top same _ (omega (arith, l.most)) ∙ l.there k;
      after = λ k i j e. l.after k i j (sym (same_hash s s' top same k (omega arith)) ∙ e);
    }

-- the same hash by another name
last_as : {s : List ℕ} {hash end v : ℕ} (hash' : ℕ) → Last s hash end v → hash ≡ hash' → Last s hash' end v
last_as hash' l e = rw e at l

link_same : {x s : List ℕ} {top : ℕ} (s' : List ℕ) → Indexed x s top → Same s s' top → (k : ℕ) → k < top
    → Last s' (hash_at s' k) k (link_of (get_or s' k 0))
link_same {x} {s} {top} s' i same k h = rw (same k h) (last_same s s' top same (omega arith) (i.link k h))

pub indexed_same : {x s : List ℕ} {top : ℕ} (s' : List ℕ) → Indexed x s top → Same s s' top → Indexed x s' top
indexed_same {x} {s} {top} s' i same =
    record {
      long = i.long;
      few = i.few;
      head = λ h k. last_same s s' top same (omega arith) (i.head h k);
      link = link_same s' i same;
    }

-- an index of no cells
pub indexed_none : (x s : List ℕ) → x ≡ replicate heads 0 → Indexed x s 0
indexed_none x s e =
    record {
      long = rw (e, length-replicate {A = ℕ} heads 0) (omega arith);
      few = omega arith;
      head = λ h k. rw (e, get_or-replicate {A = ℕ} heads h 0 0 (omega arith))
          (record { most = omega arith; there = λ l. absurd (omega arith); after = λ l m n d. omega arith });
      link = λ k h. absurd (omega arith);
    }

-- ---- looking for a node

-- how far it has come: no cell from `end` on holds the node, and v leads to the last one before with its hash
pub record Chain (s : List ℕ) (top : ℕ) (u : Term) (v : ℕ) : Type 0 where
  pub end : ℕ
  pub within : end ≤ top
  pub next : Last s (hash_of u) end v
  pub none : (k : ℕ) → end ≤ k → k < top → node_of (get_or s k 0) ≡ u → ⊥

module _ (x s : List ℕ) (top : ℕ) (u : Term) (i : Indexed x s top) where
  pub chain_first : Chain s top u (get_or x (hash_of u) 0)
  chain_first = record { end = top; within = omega arith; next = i.head (hash_of u) (hash_small u); none = λ k h j e. omega arith }

  -- the cell that v leads to holds another node
  pub chain_next : {v : ℕ} → Chain s top u v → 0 < v → (node_of (get_or s (v - 1) 0) ≡ u → ⊥) → Chain s top u (link_of (get_or s (v - 1) 0))
  chain_next {v} c h other =
      let m = c.next.most in
      record {
        end = v - 1;
        within = omega (arith, c.within);
        next = last_as (hash_of u) (i.link (v - 1) (omega (arith, c.within))) (c.next.there h);
        none = λ k l j e. elim (dec_lt k c.end) [
          | no far ↦ c.none k (omega arith) j e
          | yes near ↦ elim (dec_lt k v) [
            | no past ↦ c.next.after k (omega arith) near (ap hash_of e)
            | yes at ↦ let z : k ≡ v - 1 = omega arith in other (ap (λ (w : ℕ). node_of (get_or s w 0)) (sym z) ∙ e)
          ]
        ];
      }

  -- links lead down
  pub chain_falls : {v : ℕ} → Chain s top u v → 0 < v → link_of (get_or s (v - 1) 0) < v
  chain_falls {v} c h = omega (arith, c.within, c.next.most, (i.link (v - 1) (omega (arith, c.within, c.next.most))).most)

pub chain_inside : {s : List ℕ} {top : ℕ} {u : Term} {v : ℕ} → Chain s top u v → v ≤ top
chain_inside c = omega (arith, c.next.most, c.within)

pub chain_found : {s : List ℕ} {top : ℕ} {u : Term} {v : ℕ} → Chain s top u v → 0 < v → node_of (get_or s (v - 1) 0) ≡ u → Looked s top u (Some (v - 1))
chain_found c h e = let m = chain_inside c in record { within = omega arith; there = e; absent = tt }

pub chain_end : {s : List ℕ} {top : ℕ} {u : Term} {v : ℕ} → Chain s top u v → v ≡ 0 → Looked s top u None
chain_end {s} {top} {u} {v} c z =
    record {
      within = tt;
      there = tt;
      absent = λ k l e. elim (dec_lt k c.end) [
        | yes near ↦ c.next.after k (omega arith) near (ap hash_of e)
        | no far ↦ c.none k (omega arith) l e
      ];
    }

-- ---- a cell more

-- the head becomes the link of the new cell, and the cell the head
module _ (x s s' : List ℕ) (top : ℕ) (u : Term) (i : Indexed x s top) (same : Same s s' top) (new : node_of (get_or s' top 0) ≡ u)
    (linked : link_of (get_or s' top 0) ≡ get_or x (hash_of u) 0) (h : top < pool_cells) where
  hash_new : hash_at s' top ≡ hash_of u
  hash_new = ap hash_of new

  -- a chain that the new cell does not belong to
  last_more : {hash v : ℕ} → Last s hash top v → hash ≢ hash_of u → Last s' hash (top + 1) v
  last_more l d =
      let l' = last_same s s' top same (omega arith) l in
      record {
        most = omega (arith, l.most);
        there = l'.there;
        after = λ k a b e. elim (dec_lt k top) [
          | yes near ↦ l'.after k a near e
          | no far ↦ let z : k ≡ top = omega arith in d (sym e ∙ ap (hash_at s') z ∙ hash_new)
        ];
      }

  head_now : (k : ℕ) → k < heads → Last s' k (top + 1) (get_or (set x (hash_of u) (top + 1)) k 0)
  head_now k l = elim (ℕ_discrete k (hash_of u)) [
    | yes e ↦ rw (e, get_or-set_same x (hash_of u) (top + 1) 0 (omega (arith, hash_small u, i.long))) (
        record {
          most = omega arith;
          there = λ j. let z : top + 1 - 1 ≡ top = omega arith in ap (hash_at s') z ∙ hash_new;
          after = λ j a b d. omega arith;
        }
        )
    | no d ↦ rw (get_or-set_other x (hash_of u) k (top + 1) 0 d) (last_more (i.head k l) d)
  ]

  link_now : (k : ℕ) → k < top + 1 → Last s' (hash_at s' k) k (link_of (get_or s' k 0))
  link_now k l = elim (dec_lt k top) [
    | yes near ↦ link_same s' i same k near
    | no far ↦
        let z : k ≡ top = omega arith in
        rw (z, linked, hash_new) (last_same s s' top same (omega arith) (i.head (hash_of u) (hash_small u)))
  ]

  pub indexed_more : Indexed (set x (hash_of u) (top + 1)) s' (top + 1)
  indexed_more =
      record {
        long = omega (arith, length-set x (hash_of u) (top + 1), i.long);
        few = omega arith;
        head = head_now;
        link = link_now;
      }

-- ---- a pool that is open for more nodes

pub open_less : {x s : List ℕ} {top more : ℕ} (less : ℕ) → Open x s top more → less ≤ more → Open x s top less
open_less less o h = record { pooled = o.pooled; indexed = o.indexed; room = omega (arith, o.room); inside = omega (arith, o.inside) }

-- after so many of them were put
pub open_after : {x s x' s' : List ℕ} {top more root top' end : ℕ} {terms : List Re} {v : Re} (left : ℕ) → Open x s top more
    → After s top terms x' s' root top' v end → end + left ≤ top + more → Open x' s' top' left
open_after left o a h =
    record {
      pooled = pooled a.pool;
      indexed = a.indexed;
      room = omega (arith, o.room, a.few, a.same_length);
      inside = omega (arith, o.inside, a.few);
    }
