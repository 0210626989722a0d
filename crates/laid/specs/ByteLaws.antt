-- Laws of the bytes of laid nodes: how many there are at most, one cell more, and that they are the nodes' own bytes.
-- Either, And and Not cannot be typed, and are not laid.
use Rattle.std.specs.Prelude.{ℕ, suc, ◌+◌, ◌*◌, ◌/◌, ◌%◌, ◌<◌, ◌≤◌, ◌≡◌, refl, Bool, true, false, cond, List, [], ◌∷◌, ◌++◌, map, eqb, ltb, length, get_or, take}
use Rattle.std.proofs.Common.{arith, sym, ap, ◌∙◌, append_assoc, append-nil, length-append, take-suc, take_all, eq-eqb, ne_eqb, lt-ltb}
use Rattle.number.specs.Limits.{group, two_groups, last_byte}
use Rattle.number.specs.Branch.{by_cond}
use Rattle.number.specs.Lists.{Writes, writes_none, writes_then, written_length}
use Rattle.number.specs.Numbers.{write_number}
use Rattle.number.proofs.NumberLaws.{number_width}
use Rattle.book.specs.declared.Node.{Node}
use Rattle.book.specs.declared.Node.TheVariants.{Nothing, Empty, Range, Cat, Alt, Star, Either, And, Not}
use Rattle.book.specs.Book.{write_node, write_nodes}
use Rattle.laid.specs.Laid.{pack}
use Rattle.laid.specs.Bytes.{cell_bytes, cells_bytes}

-- ---- how many bytes

pub width_most : (n : ℕ) → length (write_number n) ≤ 3
width_most n =
    rw (number_width n) (by_cond (λ (w : ℕ). w ≤ 3) (ltb n group) (λ _. omega arith) λ _.
    by_cond (λ (w : ℕ). w ≤ 3) (ltb n two_groups) (λ _. omega arith) λ _. omega arith)

pub code_width : (x : ℕ) → length (write_number (x % 8)) ≡ 1
code_width x = number_width (x % 8) ∙ rw (lt-ltb (x % 8) group (omega arith)) refl

bounds_most : (x : ℕ) (b : Bool) → length (cond b (write_number (x / 8 / 256) ++ write_number (x / 8 % 256)) []) ≤ 6
bounds_most x true = omega (arith, length-append (write_number (x / 8 / 256)) (write_number (x / 8 % 256)), width_most (x / 8 / 256), width_most (x / 8 % 256))
bounds_most x false = omega arith

pub cell_most : (x : ℕ) → length (cell_bytes x) ≤ 7
unfolding cell_bytes
cell_most x =
    omega (
      arith,
      length-append (write_number (x % 8)) (cond (eqb (x % 8) 2) (write_number (x / 8 / 256) ++ write_number (x / 8 % 256)) []),
      code_width x,
      bounds_most x (eqb (x % 8) 2),
    )

pub cells_most : (xs : List ℕ) → length (cells_bytes xs) ≤ length xs * 7
unfolding cells_bytes
cells_most [] = omega arith
cells_most (x ∷ xs) = omega (arith, length-append (cell_bytes x) (cells_bytes xs), cell_most x, cells_most xs)

-- what was written has not changed how long the output is
pub writes_same : {w s t : List ℕ} {at next : ℕ} → Writes w s t at next → at + length w ≤ length s → length t ≡ length s
writes_same {w} {s} {at = at} a h = ap length a.out ∙ written_length s at w h

-- ---- a cell

module _ (x : ℕ) (s t : List ℕ) (at first : ℕ) (a : Writes (write_number (x % 8)) s t at first) where
  pub cell_plain : (x % 8 ≡ 2 → ⊥) → Writes (cell_bytes x) s t at first
  unfolding cell_bytes
  cell_plain n = rw (ne_eqb (x % 8) 2 n, append-nil) a

  pub cell_range : (u v : List ℕ) (second last : ℕ) → x % 8 ≡ 2 → at ≤ length s → first ≤ length t → Writes (write_number (x / 8 / 256)) t u first second
      → Writes (write_number (x / 8 % 256)) u v second last → Writes (cell_bytes x) s v at last
  unfolding cell_bytes
  cell_range u v second last e h k b d = rw (eq-eqb (x % 8) 2 e) (writes_then h a (writes_then k b d))

-- ---- cells, one by one

cells_more : (xs : List ℕ) (x : ℕ) → cells_bytes (xs ++ (x ∷ [])) ≡ cells_bytes xs ++ cell_bytes x
unfolding cells_bytes
cells_more [] x = append-nil (cell_bytes x)
cells_more (y ∷ xs) x = ap (cell_bytes y ++◌) (cells_more xs x) ∙ sym (append_assoc (cell_bytes y) (cells_bytes xs) (cell_bytes x))

-- the cells up to i, each within seven bytes
pub record CellsSoFar (cells s : List ℕ) (at : ℕ) (t : List ℕ) (p i : ℕ) : Type 0 where
  pub writes : Writes (cells_bytes (take i cells)) s t at p
  pub small : p ≤ at + i * 7
  pub same : length t ≡ length s

pub cells_first : (cells s : List ℕ) (at : ℕ) → CellsSoFar cells s at s at 0
unfolding cells_bytes
cells_first cells s at = record { writes = writes_none s at; small = omega arith; same = refl }

pub cells_on : (cells s : List ℕ) (at : ℕ) (t u : List ℕ) (p q i : ℕ) → i < length cells → at + length cells * 7 ≤ length s
    → CellsSoFar cells s at t p i → Writes (cell_bytes (get_or cells i 0)) t u p q → CellsSoFar cells s at u q (i + 1)
cells_on cells s at t u p q i l h a b =
    let one : suc i ≡ i + 1 = omega arith in
    let x : ℕ = get_or cells i 0 in
    let bytes : cells_bytes (take i cells) ++ cell_bytes x ≡ cells_bytes (take (i + 1) cells) =
    sym (cells_more (take i cells) x) ∙ ap cells_bytes (sym (take-suc cells i 0 (omega arith)) ∙ ap (λ (j : ℕ). take j cells) one) in
    record {
      writes = rw (← bytes) (writes_then (omega arith) a.writes b);
      small = omega (arith, a.small, b.place, cell_most x);
      same = writes_same b (omega (arith, a.small, a.same, cell_most x)) ∙ a.same;
    }

pub cells_all : {cells s : List ℕ} {at : ℕ} {t : List ℕ} {p i : ℕ} → length cells ≤ i → CellsSoFar cells s at t p i
    → Writes (cells_bytes cells) s t at p
cells_all {cells} {i = i} h a = rw (← take_all i cells h) a.writes

-- ---- the nodes' own bytes

-- a node that can be typed, its bounds bytes
abbrev pub Typable : Node → Type 0
Typable Nothing = Unit
Typable Empty = Unit
Typable (Range lo hi) = (lo ≤ last_byte) × (hi ≤ last_byte)
Typable Cat = Unit
Typable Alt = Unit
Typable Star = Unit
Typable (Either x) = ⊥
Typable And = ⊥
Typable Not = ⊥

abbrev pub AllTypable : List Node → Type 0
AllTypable [] = Unit
AllTypable (n ∷ ns) = Typable n × AllTypable ns

node_bytes : (n : Node) → Typable n → cell_bytes (pack n) ≡ write_node n
unfolding cell_bytes write_node
node_bytes Nothing f = refl
node_bytes Empty f = refl
node_bytes (Range lo hi) f =
    let code : ((lo * 256 + hi) * 8 + 2) % 8 ≡ 2 = omega arith in
    let low : ((lo * 256 + hi) * 8 + 2) / 8 / 256 ≡ lo = omega arith in
    let high : ((lo * 256 + hi) * 8 + 2) / 8 % 256 ≡ hi = omega arith in
    rw (code, low, high) refl
node_bytes Cat f = refl
node_bytes Alt f = refl
node_bytes Star f = refl
node_bytes (Either x) f = absurd f
node_bytes And f = absurd f
node_bytes Not f = absurd f

pub nodes_bytes : (ns : List Node) → AllTypable ns → cells_bytes (map pack ns) ≡ write_nodes ns
unfolding cells_bytes write_nodes
nodes_bytes [] f = refl
nodes_bytes (n ∷ ns) f =
    ap (λ (w : List ℕ). w ++ cells_bytes (map pack ns)) (node_bytes n f.0) ∙ ap (write_node n ++◌) (nodes_bytes ns f.1)
