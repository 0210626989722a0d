-- The stack machine of Expression never runs dry on a valid rule and ends with one term, which is the rule's expression.
-- Also how large that expression is as a tree: an Either makes three nodes of one, every other node makes one.
use Rattle.std.specs.Prelude.{ℕ, ◌+◌, ◌-◌, ◌*◌, ◌≤◌, ◌≡◌, refl, List, [], ◌∷◌, length}
use Rattle.std.proofs.Common.{arith, ap, ◌∙◌}
use Rattle.meaning.specs.Re.{Re, size, sizes}
use Rattle.book.specs.declared.Node.{Node}
use Rattle.book.specs.declared.Node.TheVariants.{Nothing, Empty, Range, Cat, Alt, Star, Either, And, Not}
use Rattle.book.specs.Book.{Rule, takes}
use Rattle.book.specs.Valid.{Leaves, ValidRule}
use Rattle.book.specs.Expression.{one, two, stacked, run_nodes, top, expression}

-- ---- one term is left

one_length : (f : Re → Re) (stack : List Re) → 1 ≤ length stack → length (one f stack) ≡ length stack
one_length f [] h = refl
one_length f (a ∷ stack) h = refl

two_length : (f : Re → Re → Re) (stack : List Re) → 2 ≤ length stack → length (two f stack) ≡ length stack - 2 + 1
two_length f [] h = absurd (omega arith)
two_length f (b ∷ []) h = absurd (omega arith)
two_length f (b ∷ a ∷ stack) h = omega arith

pub stacked_length : (n : Node) (stack : List Re) → takes n ≤ length stack → length (stacked n stack) ≡ length stack - takes n + 1
unfolding stacked
stacked_length Nothing stack h = omega arith
stacked_length Empty stack h = omega arith
stacked_length (Range lo hi) stack h = omega arith
stacked_length Cat stack h = two_length Re.Cat stack h
stacked_length Alt stack h = two_length Re.Alt stack h
stacked_length Star stack h = omega (arith, one_length Re.Star stack h)
stacked_length (Either x) stack h = omega arith
stacked_length And stack h = two_length Re.And stack h
stacked_length Not stack h = omega (arith, one_length Re.Not stack h)

run_length : (v : ℕ) (ns : List Node) (stack : List Re) (terms : ℕ) → Leaves v terms ns → length stack ≡ terms → length (run_nodes ns stack) ≡ 1
unfolding run_nodes
run_length v [] stack terms h e = e ∙ h
run_length v (n ∷ ns) stack terms h e =
    let enough : takes n ≤ length stack = omega (arith, h.1) in
    let after : length (stacked n stack) ≡ terms - takes n + 1 = rw (← e) (stacked_length n stack enough) in
    run_length v ns (stacked n stack) (terms - takes n + 1) h.2 after

top_alone : (stack : List Re) → length stack ≡ 1 → stack ≡ top stack ∷ []
top_alone [] e = absurd (omega arith)
top_alone (a ∷ []) e = refl
top_alone (a ∷ b ∷ stack) e = absurd (omega arith)

pub run_whole : (v : ℕ) (r : Rule) → ValidRule v r → run_nodes r.nodes [] ≡ expression r ∷ []
run_whole v r h = top_alone (run_nodes r.nodes []) (run_length v r.nodes [] 0 h.leaves refl)

-- ---- its size

one_sizes : (f : Re → Re) → ((a : Re) → size (f a) ≡ size a + 1) → (stack : List Re)
    → sizes (one f stack) + length stack ≤ sizes stack + 2 + length (one f stack)
unfolding sizes
one_sizes f e [] = omega arith
one_sizes f e (a ∷ stack) = omega (arith, e a)

two_sizes : (f : Re → Re → Re) → ((a b : Re) → size (f a b) ≡ size a + size b + 1) → (stack : List Re)
    → sizes (two f stack) + length stack ≤ sizes stack + 2 + length (two f stack)
unfolding sizes
two_sizes f e [] = omega arith
two_sizes f e (b ∷ []) = omega arith
two_sizes f e (b ∷ a ∷ stack) = omega (arith, e a b)

-- a node adds at most two to the sizes for itself, and one more for each term that it adds to the stack
stacked_sizes : (n : Node) (stack : List Re) → sizes (stacked n stack) + length stack ≤ sizes stack + 2 + length (stacked n stack)
unfolding stacked sizes size
stacked_sizes Nothing stack = omega arith
stacked_sizes Empty stack = omega arith
stacked_sizes (Range lo hi) stack = omega arith
stacked_sizes Cat stack = two_sizes Re.Cat (λ a b. omega arith) stack
stacked_sizes Alt stack = two_sizes Re.Alt (λ a b. omega arith) stack
stacked_sizes Star stack = one_sizes Re.Star (λ a. omega arith) stack
stacked_sizes (Either x) stack = omega arith
stacked_sizes And stack = two_sizes Re.And (λ a b. omega arith) stack
stacked_sizes Not stack = one_sizes Re.Not (λ a. omega arith) stack

run_sizes : (ns : List Node) (stack : List Re)
    → sizes (run_nodes ns stack) + length stack ≤ sizes stack + 2 * length ns + length (run_nodes ns stack)
unfolding run_nodes
run_sizes [] stack = omega arith
run_sizes (n ∷ ns) stack = omega (arith, stacked_sizes n stack, run_sizes ns (stacked n stack))

-- half of a rule's nodes, and one, can be leaves, so the expression has at most twice as many nodes, and one
pub expression_size : (v : ℕ) (r : Rule) → ValidRule v r → size (expression r) ≤ 2 * length r.nodes + 1
unfolding sizes
expression_size v r h =
    let whole : run_nodes r.nodes [] ≡ expression r ∷ [] = run_whole v r h in
    let bound = run_sizes r.nodes [] in
    let all : sizes (run_nodes r.nodes []) ≡ size (expression r) + 0 = ap sizes whole in
    let left : length (run_nodes r.nodes []) ≡ 1 = ap length whole in
    omega arith
