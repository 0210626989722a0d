-- Working a valid rule's nodes off with normal forms gives the limited normal form of the rule's expression.
-- The limited normal form is strict in all parts and no term leaves the stack unused, so a part that is too long makes the whole so.
use Rattle.std.specs.Prelude.{ℕ, zero, suc, ◌+◌, ◌-◌, ◌≤◌, ◌≡◌, refl, Bool, true, false, cond, List, [], ◌∷◌, length, drop}
use Rattle.std.proofs.Common.{arith, sym, ◌∙◌}
use Rattle.meaning.specs.declared.Join.TheVariants.{Or, Both}
use Rattle.meaning.specs.Re.{Re, size}
use Rattle.meaning.specs.Normal.{cat, alt, star, both, negated}
use Rattle.meaning.specs.Limited.{Fit, ◌>>=◌, short, fit, normal_fit}
use Rattle.meaning.specs.Limited.Fit.{Long, Fits}
use Rattle.meaning.specs.Shape.{InShape}
use Rattle.meaning.proofs.ShapeLaws.{shape_cat, shape_formed, shape_star, shape_negated}
use Rattle.book.specs.declared.Node.{Node}
use Rattle.book.specs.declared.Node.TheVariants.{Nothing, Empty, Range, Cat, Alt, Star, Either, And, Not}
use Rattle.book.specs.Book.{Rule, takes}
use Rattle.book.specs.Valid.{Leaves, ValidRule}
use Rattle.book.specs.Expression.{one, two, stacked, run_nodes, top, expression}
use Rattle.book.specs.ExpressionLaws.{stacked_length}
use Rattle.rule.specs.RunFit.{second, large, small, node_term, made, run_fit}

-- each term of one stack is the limited normal form of its place on the other
pub data Each : List Re → List Re → Type 0 where
  none : Each [] []
  more : {e v : Re} {es vs : List Re} → normal_fit e ≡ Fits v → Each es vs → Each (e ∷ es) (v ∷ vs)

-- some expression of a stack is too long
data Some : List Re → Type 0 where
  here : (e : Re) (es : List Re) → normal_fit e ≡ Long → Some (e ∷ es)
  later : {e : Re} {es : List Re} → Some es → Some (e ∷ es)

-- ---- one node

each_drop : {es vs : List Re} (k : ℕ) → Each es vs → Each (drop k es) (drop k vs)
each_drop zero ps = ps
each_drop (suc k) none = none
each_drop (suc k) (more p ps) = each_drop k ps

-- an operator puts one term in the place of those that it takes
one_is : (f : Re → Re) (es : List Re) → 1 ≤ length es → one f es ≡ top (one f es) ∷ drop 1 es
one_is f [] h = absurd (omega arith)
one_is f (a ∷ es) h = refl

two_is : (f : Re → Re → Re) (es : List Re) → 2 ≤ length es → two f es ≡ top (two f es) ∷ drop 2 es
two_is f [] h = absurd (omega arith)
two_is f (b ∷ []) h = absurd (omega arith)
two_is f (b ∷ a ∷ es) h = refl

-- and so does any node
stacked_is : (n : Node) (es : List Re) → takes n ≤ length es → stacked n es ≡ top (stacked n es) ∷ drop (takes n) es
unfolding stacked
stacked_is Nothing es h = refl
stacked_is Empty es h = refl
stacked_is (Range lo hi) es h = refl
stacked_is Cat es h = two_is Re.Cat es h
stacked_is Alt es h = two_is Re.Alt es h
stacked_is Star es h = one_is Re.Star es h
stacked_is (Either x) es h = refl
stacked_is And es h = two_is Re.And es h
stacked_is Not es h = one_is Re.Not es h

-- the limited normal form of an operator's term is made of its parts' by another, which joins terms in normal form
abbrev Strict : (Re → Re) → (Re → Re) → Type 0
Strict f g = (a : Re) → normal_fit (f a) ≡ (normal_fit a >>= λ x. fit (g x))

abbrev StrictTwo : (Re → Re → Re) → (Re → Re → Re) → Type 0
StrictTwo f g = (a b : Re) → normal_fit (f a b) ≡ (normal_fit a >>= λ x. normal_fit b >>= λ y. fit (g x y))

one_made : (f g : Re → Re) → Strict f g → {es vs : List Re} → Each es vs → 1 ≤ length es → normal_fit (top (one f es)) ≡ fit (g (top vs))
one_made f g strict none h = absurd (omega arith)
one_made f g strict (more {e} p ps) h = rw (strict e, p)

two_made : (f g : Re → Re → Re) → StrictTwo f g → {es vs : List Re} → Each es vs → 2 ≤ length es
    → normal_fit (top (two f es)) ≡ fit (g (second vs) (top vs))
two_made f g strict none h = absurd (omega arith)
two_made f g strict (more p none) h = absurd (omega arith)
two_made f g strict (more {e = b} p (more {e = a} q ps)) h = rw (strict a b, q, p)

-- so is that of what a node puts
made_is : (n : Node) {es vs : List Re} → Each es vs → takes n ≤ length es → normal_fit (top (stacked n es)) ≡ made n (second vs) (top vs)
unfolding stacked normal_fit size
made_is Nothing ps h = refl
made_is Empty ps h = refl
made_is (Range lo hi) ps h = refl
made_is Cat ps h = two_made Re.Cat cat (λ a b. refl) ps h
made_is Alt ps h = two_made Re.Alt alt (λ a b. refl) ps h
made_is Star ps h = one_made Re.Star star (λ a. refl) ps h
made_is (Either x) ps h = refl
made_is And ps h = two_made Re.And both (λ a b. refl) ps h
made_is Not ps h = one_made Re.Not negated (λ a. refl) ps h

-- a second part that is too long makes the whole so, whatever the first is
long_second : (m : Fit) → (m >>= λ a. Long) ≡ Long
long_second Long = refl
long_second (Fits a) = refl

some_one : (f g : Re → Re) → Strict f g → {es : List Re} → Some es → 1 ≤ length es → Some (one f es)
some_one f g strict (here a es p) h = here (f a) es (rw (strict a, p))
some_one f g strict (later o) h = later o

some_two : (f g : Re → Re → Re) → StrictTwo f g → {es : List Re} → Some es → 2 ≤ length es → Some (two f es)
some_two f g strict (here b [] p) h = absurd (omega arith)
some_two f g strict (here b (a ∷ es) p) h = here (f a b) es (rw (strict a b, p) (long_second (normal_fit a)))
some_two f g strict (later {e = b} (here a es p)) h = here (f a b) es (rw (strict a b, p))
some_two f g strict (later (later o)) h = later o

some_stacked : (n : Node) {es : List Re} → Some es → takes n ≤ length es → Some (stacked n es)
unfolding stacked normal_fit
some_stacked Nothing o h = later o
some_stacked Empty o h = later o
some_stacked (Range lo hi) o h = later o
some_stacked Cat o h = some_two Re.Cat cat (λ a b. refl) o h
some_stacked Alt o h = some_two Re.Alt alt (λ a b. refl) o h
some_stacked Star o h = some_one Re.Star star (λ a. refl) o h
some_stacked (Either x) o h = later o
some_stacked And o h = some_two Re.And both (λ a b. refl) o h
some_stacked Not o h = some_one Re.Not negated (λ a. refl) o h

-- ---- all nodes

some_alone : {es : List Re} → Some es → length es ≡ 1 → normal_fit (top es) ≡ Long
some_alone (here a es p) e = p
some_alone (later (here a es p)) e = absurd (omega arith)
some_alone (later (later o)) e = absurd (omega arith)

some_run : (v : ℕ) (ns : List Node) {es : List Re} (terms : ℕ) → Leaves v terms ns → length es ≡ terms → Some es
    → normal_fit (top (run_nodes ns es)) ≡ Long
unfolding run_nodes
some_run v [] terms h e o = some_alone o (e ∙ h)
some_run v (n ∷ ns) {es} terms h e o =
    let enough : takes n ≤ length es = omega (arith, h.1) in
    let after : length (stacked n es) ≡ terms - takes n + 1 = rw (← e) (stacked_length n es enough) in
    some_run v ns (terms - takes n + 1) h.2 after (some_stacked n o enough)

each_alone : {es vs : List Re} → Each es vs → length es ≡ 1 → Fits (top vs) ≡ normal_fit (top es)
each_alone none e = absurd (omega arith)
each_alone (more p ps) e = sym p

run_fits : (v : ℕ) (ns : List Node) {es vs : List Re} (terms : ℕ) → Leaves v terms ns → length es ≡ terms → Each es vs
    → run_fit ns vs ≡ normal_fit (top (run_nodes ns es))
unfolding run_nodes run_fit
run_fits v [] terms h e ps = each_alone ps (e ∙ h)
run_fits v (n ∷ ns) {es} {vs} terms h e ps =
    let enough : takes n ≤ length es = omega (arith, h.1) in
    let after : length (stacked n es) ≡ terms - takes n + 1 = rw (← e) (stacked_length n es enough) in
    let parts = stacked_is n es enough in
    go (made n (second vs) (top vs)) (made_is n ps enough)
    (λ p. some_run v ns (terms - takes n + 1) h.2 after (rw parts (here _ _ p)))
    (λ w p. run_fits v ns (terms - takes n + 1) h.2 after (rw parts (more p (each_drop (takes n) ps))))
  where
    go : (m : Fit) → normal_fit (top (stacked n es)) ≡ m
        → (normal_fit (top (stacked n es)) ≡ Long → normal_fit (top (run_nodes ns (stacked n es))) ≡ Long)
        → ((v : Re) → normal_fit (top (stacked n es)) ≡ Fits v → run_fit ns (v ∷ drop (takes n) vs) ≡ normal_fit (top (run_nodes ns (stacked n es))))
        → (m >>= λ v. run_fit ns (v ∷ drop (takes n) vs)) ≡ normal_fit (top (run_nodes ns (stacked n es)))
    go Long p long fits = sym (long p)
    go (Fits v) p long fits = fits v p

-- the nodes of a valid rule make the limited normal form of its expression
pub run_fit_lem : (v : ℕ) (r : Rule) → ValidRule v r → run_fit r.nodes [] ≡ normal_fit (expression r)
run_fit_lem v r h = run_fits v r.nodes 0 h.leaves refl none

-- ---- what is made is in normal form and short

pub record Held (v : Re) : Type 0 where
  pub in_shape : InShape v
  pub is_short : short v ≡ true

fit_held : (r v : Re) → InShape r → fit r ≡ Fits v → Held v
fit_held r v s = go (short r) refl
  where
    go : (b : Bool) → short r ≡ b → cond b (Fits r) Long ≡ Fits v → Held v
    go true f e = let same : r ≡ v = cc in rw (← same) (record { in_shape = s; is_short = f })
    go false f e = absurd (let z : ◌≡◌ {A = ℕ} 0 1 = cc in omega arith)

node_shape : (n : Node) (a b : Re) → (2 ≤ takes n → InShape a) → (1 ≤ takes n → InShape b) → InShape (node_term n a b)
node_shape Nothing a b s t = tt
node_shape Empty a b s t = tt
node_shape (Range lo hi) a b s t = tt
node_shape Cat a b s t = shape_cat a b (s (omega arith)) (t (omega arith))
node_shape Alt a b s t = shape_formed Or tt a b (s (omega arith)) (t (omega arith))
node_shape Star a b s t = shape_star b (t (omega arith))
node_shape (Either x) a b s t = shape_formed Or tt (large x) (small x) tt tt
node_shape And a b s t = shape_formed Both tt a b (s (omega arith)) (t (omega arith))
node_shape Not a b s t = shape_negated b (t (omega arith))

pub made_held : (n : Node) (a b v : Re) → (2 ≤ takes n → InShape a) → (1 ≤ takes n → InShape b) → made n a b ≡ Fits v → Held v
made_held n a b v s t e = fit_held (node_term n a b) v (node_shape n a b s t) e
