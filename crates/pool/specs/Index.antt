-- The index of a pool: its cells in chains, one for each hash of a node, so that a node is looked for among few cells.
-- It has a head for each hash, and a link stands in each cell of the pool; both name the last cell of the chain before them.
use Rattle.std.specs.Prelude.{ℕ, ◌+◌, ◌-◌, ◌*◌, ◌%◌, ◌<◌, ◌≤◌, ◌≡◌, List, length, get_or}
use Rattle.number.specs.Limits.{pool, rules, tree_nodes}
use Rattle.term.specs.declared.Term.{Term}
use Rattle.meaning.specs.Re.{Re}
use Rattle.term.specs.Cells.{link_of, node_of, term}
use Rattle.term.specs.Nodes.{kind_of, first_of, second_of}
use Rattle.walk.specs.Parts.{with_parts}
use Rattle.pool.specs.Pooled.{Pool, Pooled}

-- the cells of a pool: what may be held, and one vector more that is not held yet
abbrev pub pool_cells : ℕ
pool_cells = pool + rules * tree_nodes

-- how many hashes there are, each with a head
abbrev pub heads : ℕ
heads = pool

-- the hash of a node, and of the node in a cell
unfoldable pub hash_of : Term → ℕ
hash_of u = (kind_of u + 7 * first_of u + 61 * second_of u) % heads

abbrev pub hash_at : List ℕ → ℕ → ℕ
hash_at s k = hash_of (node_of (get_or s k 0))

-- v is 1 plus the last cell below `end` with this hash, or 0 if there is none
pub record Last (s : List ℕ) (hash end v : ℕ) : Type 0 where
  pub most : v ≤ end
  pub there : 0 < v → hash_at s (v - 1) ≡ hash
  pub after : (k : ℕ) → v ≤ k → k < end → hash_at s k ≡ hash → ⊥

-- x is the index of the cells below top, and their links make the chains
pub record Indexed (x s : List ℕ) (top : ℕ) : Type 0 where
  pub long : heads ≤ length x
  pub few : top ≤ pool_cells
  pub head : (h : ℕ) → h < heads → Last s h top (get_or x h 0)
  pub link : (k : ℕ) → k < top → Last s (hash_at s k) k (link_of (get_or s k 0))

-- a pool with its index, into which so many nodes more can be put
pub record Open (x s : List ℕ) (top more : ℕ) : Type 0 where
  pub pooled : Pooled s top
  pub indexed : Indexed x s top
  pub room : top + more ≤ length s
  pub inside : top + more ≤ pool_cells

-- the pool holds these terms now, v in cell root, and x' is its index; its new cells are below `end`; cells of the old pool, and from `end` on, are as they were
pub record After (s : List ℕ) (top : ℕ) (terms' : List Re) (x' s' : List ℕ) (root top' : ℕ) (v : Re) (end : ℕ) : Type 0 where
  pub pool : Pool s' top' terms'
  pub indexed : Indexed x' s' top'
  pub up : top ≤ top'
  pub few : top' ≤ end
  pub within : root < top'
  pub is : term s' root ≡ v
  pub same_length : length s' ≡ length s
  pub kept_below : (i : ℕ) → i < top → get_or s' i 0 ≡ get_or s i 0
  pub kept_above : (i : ℕ) → end ≤ i → get_or s' i 0 ≡ get_or s i 0

-- after a term has been put into a pool of these terms with all its parts
abbrev pub Put : List ℕ → ℕ → List Re → List ℕ → List ℕ → ℕ → ℕ → Re → ℕ → Type 0
Put s top terms x' s' root top' v end = After s top (with_parts terms v) x' s' root top' v end
