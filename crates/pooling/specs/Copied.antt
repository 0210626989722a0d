-- What the steps of putting a term tell: a child listed, the nodes copied out, a node over the numbers of its children. These are their contracts.
-- Copying and Putting say how far the two loops have come. What is told of a stack is told for whatever terms the cells hold.
use Rattle.std.specs.Prelude.{ℕ, ◌+◌, ◌-◌, ◌<◌, ◌≤◌, ◌≡◌, List, [], length, get_or, drop}
use Rattle.meaning.specs.Re.{Re, size, sizes}
use Rattle.term.specs.declared.Term.{Term}
use Rattle.term.specs.Cells.{grow, term, Below, Sound}
use Rattle.term.specs.Places.{terms_at}
use Rattle.walk.specs.Parts.{with_parts}
use Rattle.pool.specs.Pooled.{terms_of}
use Rattle.pool.specs.Index.{Open, Put}
use Rattle.pooling.specs.Postfix.{waits, takes, opened, Runs, with_all, Low, nodes_from}

-- a child was listed, or stands in the pool; places above the list are as they were
pub record Waited (base child : ℕ) (o : List ℕ) (n : ℕ) (o' : List ℕ) (n' : ℕ) : Type 0 where
  pub same_length : length o' ≡ length o
  pub most : n' ≤ n + 1
  pub stack : (f : ℕ → Re) → terms_at f o' n' ≡ waits base f child (terms_at f o n)
  pub low : (i : ℕ) → child < i → Low o n i → Low o' n' i
  pub kept : (k : ℕ) → n < k → drop k o' ≡ drop k o

-- the nodes from `start` on make v and put it into the pool with its parts, and they are no more than those of v
pub record Copied (s : List ℕ) (top : ℕ) (v : Re) (o : List ℕ) (start : ℕ) : Type 0 where
  pub within : start ≤ length o
  pub few : length o ≤ start + size v
  pub runs : Runs top (term s) v (with_parts (terms_of s top) v) (nodes_from o start) [] (terms_of s top)

-- the same of some term
pub record SomeCopied (s : List ℕ) (top : ℕ) (o : List ℕ) (start : ℕ) : Type 0 where
  pub v : Re
  pub copied : Copied s top v o start

-- on the way: the nodes from `start` on are written, and the numbers of n cells wait in the front. What is worked off on their terms makes v
pub record Copying (s : List ℕ) (top i long : ℕ) (o : List ℕ) (start n : ℕ) : Type 0 where
  pub pool : Sound s top
  pub sound : Sound s (i + 1)
  pub fits : size (term s i) ≤ long
  pub same_length : length o ≡ long
  pub within : start ≤ long
  pub few : long + sizes (terms_at (term s) o n) ≤ start + size (term s i)
  pub low : Low o n (i + 1)
  pub runs : Runs top (term s) (term s i) (with_parts (terms_of s top) (term s i)) (nodes_from o start) (terms_at (term s) o n)
      (with_all (terms_of s top) (terms_at (term s) o n))

-- g tells the terms of numbers in the pool as it has grown, f those of the cells that were copied: one term below base
abbrev pub Alike : ℕ → (ℕ → Re) → (ℕ → Re) → Type 0
Alike base f g = (a : ℕ) → a < base → g a ≡ f a

-- a child's number, and the stack without it
pub record Taken (base child : ℕ) (o : List ℕ) (n number n' : ℕ) : Type 0 where
  pub fewer : n' + takes base child ≡ n
  pub is : (f g : ℕ → Re) → Alike base f g → (vs : List Re) → terms_at g o n ≡ waits base f child vs
      → (terms_at g o n' ≡ vs) × (g number ≡ f child)
  pub low : (top : ℕ) → base ≤ top → Low o n top → number < top

-- a node over the numbers of its children, and the stack without them
pub record Rooted (base : ℕ) (u : Term) (o : List ℕ) (n : ℕ) (u' : Term) (n' : ℕ) : Type 0 where
  pub fewer : n' ≤ n
  pub is : (f g : ℕ → Re) → Alike base f g → (vs : List Re) → terms_at g o n ≡ opened base f u vs
      → (terms_at g o n' ≡ vs) × (grow u' g ≡ grow u f)
  pub below : (top : ℕ) → base ≤ top → Low o n top → Below u' top

-- on the way: the nodes from k on are to be put, and the numbers of n terms that were put stand in the front. The pool has grown
pub record Putting (s : List ℕ) (top : ℕ) (v : Re) (long start : ℕ) (x s' : List ℕ) (top' : ℕ) (o : List ℕ) (n k : ℕ) : Type 0 where
  pub pool : Sound s top
  pub same_length : length o ≡ long
  pub from : start ≤ k
  pub within : k ≤ long
  pub high : n ≤ k
  pub low : Low o n top'
  pub runs : Runs top (term s) v (with_parts (terms_of s top) v) (nodes_from o k) (terms_at (term s') o n) (terms_of s' top')
  pub ready : Open x s' top' (long - k)
  pub up : top ≤ top'
  pub few : top' + start ≤ top + k
  pub area : length s' ≡ length s
  pub kept_below : (i : ℕ) → i < top → get_or s' i 0 ≡ get_or s i 0
  pub kept_above : (i : ℕ) → top + (long - start) ≤ i → get_or s' i 0 ≡ get_or s i 0

-- whatever term was copied out, it was put
pub record CopyPut (s : List ℕ) (top : ℕ) (o : List ℕ) (start : ℕ) (x' s' : List ℕ) (root top' : ℕ) : Type 0 where
  pub put : (v : Re) → Copied s top v o start → Put s top (terms_of s top) x' s' root top' v (top + size v)
