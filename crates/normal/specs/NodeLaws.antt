-- What the code's tests of a node tell of its term: whether an operator joins it, whether it is Nothing or Empty.
-- Each is over what reading the node told.
use Rattle.std.specs.Prelude.{ℕ, ◌<◌, ◌≤◌, ◌≡◌, refl, Bool, true, false, List, [], ◌∷◌, length}
use Rattle.std.proofs.Common.{arith, sym, ap, ◌∙◌, length-append, eqb-true, ne_eqb}
use Rattle.meaning.specs.declared.Join.{Join}
use Rattle.meaning.specs.declared.Join.TheVariants.{Then, Or, Both}
use Rattle.meaning.specs.Re.{Re, is_nothing, is_empty}
use Rattle.meaning.specs.Normal.{joined, joins, gathered}
use Rattle.meaning.specs.JoinLaws.{Full, gathered_full, gathered_joined}
use Rattle.term.specs.declared.Term.{Term}
use Rattle.term.specs.declared.Term.TheVariants.{Nothing, Empty, Range, Cat, Alt, Star, And, Not}
use Rattle.term.specs.Cells.{grow, term}
use Rattle.term.specs.Nodes.{kind_of, first_of, second_of, nothing_node, empty_node, Found}
use Rattle.term.specs.CellLaws.{found_nothing, found_empty}
use Rattle.term.specs.ReadLaws.{of_kind, found_kind}
use Rattle.normal.specs.Asked.{members}
use Rattle.normal.specs.Nest.{joins_node}

-- the term of a node is joined by an operator where the node is
grown_joins : (k : Join) (u : Term) (f : ℕ → Re) → joins k (grow u f) ≡ joins_node k u
grown_joins Then Nothing f = refl
grown_joins Then Empty f = refl
grown_joins Then (Range lo hi) f = refl
grown_joins Then (Cat a b) f = refl
grown_joins Then (Alt a b) f = refl
grown_joins Then (Star a) f = refl
grown_joins Then (And a b) f = refl
grown_joins Then (Not a) f = refl
grown_joins Or Nothing f = refl
grown_joins Or Empty f = refl
grown_joins Or (Range lo hi) f = refl
grown_joins Or (Cat a b) f = refl
grown_joins Or (Alt a b) f = refl
grown_joins Or (Star a) f = refl
grown_joins Or (And a b) f = refl
grown_joins Or (Not a) f = refl
grown_joins Both Nothing f = refl
grown_joins Both Empty f = refl
grown_joins Both (Range lo hi) f = refl
grown_joins Both (Cat a b) f = refl
grown_joins Both (Alt a b) f = refl
grown_joins Both (Star a) f = refl
grown_joins Both (And a b) f = refl
grown_joins Both (Not a) f = refl

-- a node that joins a member to the rest: both stand below it, and its term is theirs, joined
pub record Joins (k : Join) (s : List ℕ) (i x y : ℕ) : Type 0 where
  pub first : x < i
  pub rest : y < i
  pub is : term s i ≡ joined k (term s x) (term s y)

node_joins : (k : Join) {s : List ℕ} {i : ℕ} {u : Term} {x y : ℕ} → Found s i u → joins_node k u ≡ true → x ≡ first_of u → y ≡ second_of u → Joins k s i x y
node_joins Then {u = u} f e p q = let g = found_kind f (eqb-true (kind_of u) 3 e) p q in record { first = g.below.0; rest = g.below.1; is = g.is }
node_joins Or {u = u} f e p q = let g = found_kind f (eqb-true (kind_of u) 4 e) p q in record { first = g.below.0; rest = g.below.1; is = g.is }
node_joins Both {u = u} f e p q = let g = found_kind f (eqb-true (kind_of u) 6 e) p q in record { first = g.below.0; rest = g.below.1; is = g.is }

-- the answer of joins
module _ (k : Join) {s : List ℕ} {i : ℕ} {u : Term} {p : Bool} (f : Found s i u) (e : p ≡ joins_node k u) where
  pub told_joins : {x y : ℕ} → p ≡ true → x ≡ first_of u → y ≡ second_of u → Joins k s i x y
  told_joins d = node_joins k f (sym e ∙ d)

  pub told_single : p ≡ false → joins k (term s i) ≡ false
  told_single d = ap (joins k) f.is ∙ grown_joins k u (term s) ∙ sym e ∙ d

-- the answers of is_nothing and is_empty
pub told_nothing : {s : List ℕ} {i : ℕ} {u : Term} {p q : Bool} → Found s i u → p ≡ nothing_node u → p ≡ q → is_nothing (term s i) ≡ q
told_nothing {s} {i} {u} f e d = found_nothing s i u f ∙ sym e ∙ d

pub told_empty : {s : List ℕ} {i : ℕ} {u : Term} {p q : Bool} → Found s i u → p ≡ empty_node u → p ≡ q → is_empty (term s i) ≡ q
told_empty {s} {i} {u} f e d = found_empty s i u f ∙ sym e ∙ d

-- a node that is not Nothing, and one that is not Empty
pub not_nothing : (u : Term) → (u ≡ Nothing → ⊥) → false ≡ nothing_node u
not_nothing u h = sym (ne_eqb (kind_of u) 0 (λ e. h (of_kind u 0 e)))

pub not_empty : (u : Term) → (u ≡ Empty → ⊥) → false ≡ empty_node u
not_empty u h = sym (ne_eqb (kind_of u) 1 (λ e. h (of_kind u 1 e)))

-- every term has a member, and what is joined has more than the rest
pub members_some : (k : Join) (r : Re) → 1 ≤ members k r
members_some k r = go (gathered k r) (gathered_full k r)
  where
    go : (xs : List Re) → Full xs → 1 ≤ length xs
    go [] f = absurd f
    go (x ∷ xs) f = omega arith

pub members_rest : (k : Join) (x y : Re) → members k y < members k (joined k x y)
members_rest k x y = rw (gathered_joined k x y) (omega (arith, length-append (gathered k x) (gathered k y), members_some k x))
