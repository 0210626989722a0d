-- Running the postfix of an expression leaves that expression, whatever stands below it; so expressions within a book's limits are some book's rules.
-- Also what an Either, an And and a Not match.
use Rattle.std.specs.Prelude.{ℕ, ◌+◌, ◌-◌, ◌≤◌, ◌≡◌, refl, ◌↔◌, ◌⊎◌, length}
use Rattle.std.proofs.Common.{arith, sym, ap, subst, ◌∙◌, inl, inr, length-append}
use mathlib.Core.List.{List, [], ◌∷◌, ◌++◌, map, flatten, append_assoc, append-nil}
use Rattle.number.specs.Limits.{last_version, rules, nodes}
use Rattle.meaning.specs.Re.{Re, Text, size}
use Rattle.meaning.specs.PartLaws.{size_some}
use Rattle.meaning.specs.Means.{OneByte, Matches}
use Rattle.book.specs.declared.Node.{Node}
use Rattle.book.specs.declared.Node.TheVariants.{Nothing, Empty, Range, Cat, Alt, Star, Either, And, Not}
use Rattle.book.specs.Book.{Rule, allowed, takes, total}
use Rattle.book.specs.Valid.{Within, Leaves, ValidRule, AllValid}
use Rattle.book.specs.Expression.{stacked, run_nodes, top, expression}
use Rattle.book.specs.Postfix.{postfix, OfBytes, AllOfBytes, BookFor}

-- ---- it leaves the expression

pub three : (a b c d : List Node) → (a ++ (b ++ c)) ++ d ≡ a ++ (b ++ (c ++ d))
three a b c d = append_assoc a (b ++ c) d ∙ ap (λ (x : List Node). a ++ x) (append_assoc b c d)

-- with anything behind it
abbrev RunsOn : Re → Type 0
RunsOn r = (ns : List Node) (stack : List Re) → run_nodes (postfix r ++ ns) stack ≡ run_nodes ns (r ∷ stack)

-- an operator's terms, and then it
run_one : (o : Node) (a : Re) (ns : List Node) (stack : List Re) → RunsOn a
    → run_nodes ((postfix a ++ (o ∷ [])) ++ ns) stack ≡ run_nodes (o ∷ ns) (a ∷ stack)
run_one o a ns stack f = ap (λ (l : List Node). run_nodes l stack) (append_assoc (postfix a) (o ∷ []) ns) ∙ f (o ∷ ns) stack

run_two : (o : Node) (a b : Re) (ns : List Node) (stack : List Re) → RunsOn a → RunsOn b
    → run_nodes ((postfix a ++ (postfix b ++ (o ∷ []))) ++ ns) stack ≡ run_nodes (o ∷ ns) (b ∷ a ∷ stack)
run_two o a b ns stack f g =
    ap (λ (l : List Node). run_nodes l stack) (three (postfix a) (postfix b) (o ∷ []) ns)
    ∙ f (postfix b ++ (o ∷ ns)) stack ∙ g (o ∷ ns) (a ∷ stack)

run_on : (r : Re) → RunsOn r
unfolding postfix run_nodes stacked
run_on Re.Nothing = λ ns stack. refl
run_on Re.Empty = λ ns stack. refl
run_on (Re.Range lo hi) = λ ns stack. refl
run_on (Re.Cat a b) = λ ns stack. run_two Cat a b ns stack (run_on a) (run_on b)
run_on (Re.Alt a b) = λ ns stack. run_two Alt a b ns stack (run_on a) (run_on b)
run_on (Re.Star a) = λ ns stack. run_one Star a ns stack (run_on a)
run_on (Re.And a b) = λ ns stack. run_two And a b ns stack (run_on a) (run_on b)
run_on (Re.Not a) = λ ns stack. run_one Not a ns stack (run_on a)

pub postfix_run : (r : Re) (stack : List Re) → run_nodes (postfix r) stack ≡ r ∷ stack
unfolding run_nodes
postfix_run r stack = sym (ap (λ (l : List Node). run_nodes l stack) (append-nil (postfix r))) ∙ run_on r [] stack

-- a node for each of the tree's
one_more : (o : Node) (a : Re) → length (postfix a) ≡ size a → length (postfix a ++ (o ∷ [])) ≡ 1 + size a
one_more o a e = omega (arith, length-append (postfix a) (o ∷ []))

both_more : (o : Node) (a b : Re) → length (postfix a) ≡ size a → length (postfix b) ≡ size b
    → length (postfix a ++ (postfix b ++ (o ∷ []))) ≡ 1 + size a + size b
both_more o a b e f = omega (arith, length-append (postfix a) (postfix b ++ (o ∷ [])), length-append (postfix b) (o ∷ []))

pub postfix_size : (r : Re) → length (postfix r) ≡ size r
unfolding postfix size
postfix_size Re.Nothing = refl
postfix_size Re.Empty = refl
postfix_size (Re.Range lo hi) = refl
postfix_size (Re.Cat a b) = both_more Cat a b (postfix_size a) (postfix_size b)
postfix_size (Re.Alt a b) = both_more Alt a b (postfix_size a) (postfix_size b)
postfix_size (Re.Star a) = one_more Star a (postfix_size a)
postfix_size (Re.And a b) = both_more And a b (postfix_size a) (postfix_size b)
postfix_size (Re.Not a) = one_more Not a (postfix_size a)

-- ---- and it is a valid rule

-- the same nodes or count, told otherwise
pub leaves_as : (v t : ℕ) {xs ys : List Node} → xs ≡ ys → Leaves v t ys → Leaves v t xs
leaves_as v t e h = subst (Leaves v t) (sym e) h

pub at_count : (v : ℕ) (ns : List Node) (t u : ℕ) → t ≡ u → Leaves v t ns → Leaves v u ns
at_count v ns t u e h = subst (λ (x : ℕ). Leaves v x ns) e h

abbrev LeavesOn : Re → Type 0
LeavesOn r = (ns : List Node) (t : ℕ) → Leaves last_version (t + 1) ns → Leaves last_version t (postfix r ++ ns)

leaves_none : (o : Node) (ns : List Node) (t : ℕ) → Within last_version o → takes o ≡ 0 → Leaves last_version (t + 1) ns
    → Leaves last_version t (o ∷ ns)
leaves_none o ns t w e h = (w, omega arith, at_count last_version ns (t + 1) (t - takes o + 1) (omega arith) h)

leaves_one : (o : Node) (a : Re) (ns : List Node) (t : ℕ) → Within last_version o → takes o ≡ 1 → LeavesOn a → Leaves last_version (t + 1) ns
    → Leaves last_version t ((postfix a ++ (o ∷ [])) ++ ns)
leaves_one o a ns t w e f h =
    leaves_as last_version t (append_assoc (postfix a) (o ∷ []) ns)
    (f (o ∷ ns) t (w, omega arith, at_count last_version ns (t + 1) (t + 1 - takes o + 1) (omega arith) h))

leaves_two : (o : Node) (a b : Re) (ns : List Node) (t : ℕ) → Within last_version o → takes o ≡ 2 → LeavesOn a → LeavesOn b
    → Leaves last_version (t + 1) ns → Leaves last_version t ((postfix a ++ (postfix b ++ (o ∷ []))) ++ ns)
leaves_two o a b ns t w e f g h =
    leaves_as last_version t (three (postfix a) (postfix b) (o ∷ []) ns)
    (f (postfix b ++ (o ∷ ns)) t (g (o ∷ ns) (t + 1)
    (w, omega arith, at_count last_version ns (t + 1) (t + 1 + 1 - takes o + 1) (omega arith) h)))

leaves_on : (r : Re) → OfBytes r → LeavesOn r
unfolding postfix allowed
leaves_on Re.Nothing f = λ ns t h. leaves_none Nothing ns t (refl, tt) refl h
leaves_on Re.Empty f = λ ns t h. leaves_none Empty ns t (refl, tt) refl h
leaves_on (Re.Range lo hi) f = λ ns t h. leaves_none (Range lo hi) ns t (refl, f) refl h
leaves_on (Re.Cat a b) f = λ ns t h. leaves_two Cat a b ns t (refl, tt) refl (leaves_on a f.0) (leaves_on b f.1) h
leaves_on (Re.Alt a b) f = λ ns t h. leaves_two Alt a b ns t (refl, tt) refl (leaves_on a f.0) (leaves_on b f.1) h
leaves_on (Re.Star a) f = λ ns t h. leaves_one Star a ns t (refl, tt) refl (leaves_on a f) h
leaves_on (Re.And a b) f = λ ns t h. leaves_two And a b ns t (refl, tt) refl (leaves_on a f.0) (leaves_on b f.1) h
leaves_on (Re.Not a) f = λ ns t h. leaves_one Not a ns t (refl, tt) refl (leaves_on a f) h

abbrev as_rule : Re → Rule
as_rule r = record { kind = 0; nodes = postfix r }

rule_valid : (r : Re) → OfBytes r → ValidRule last_version (as_rule r)
rule_valid r f =
    record {
      kind_fits = omega arith;
      some = omega (arith, postfix_size r, size_some r);
      leaves = leaves_as last_version 0 (sym (append-nil (postfix r))) (leaves_on r f [] 0 refl);
    }

all_valid : (rs : List Re) → AllOfBytes rs → AllValid last_version (map as_rule rs)
all_valid [] f = tt
all_valid (r ∷ rs) f = (rule_valid r f.0, all_valid rs f.1)

-- all nodes together, told as one list
pub total_nodes : (rs : List Rule) → total rs ≡ length (flatten (map (λ (r : Rule). r.nodes) rs))
unfolding total flatten
total_nodes [] = refl
total_nodes (r ∷ rs) = omega (arith, total_nodes rs, length-append r.nodes (flatten (map (λ (q : Rule). q.nodes) rs)))

all_total : (rs : List Re) → total (map as_rule rs) ≡ length (flatten (map postfix rs))
unfolding total flatten
all_total [] = refl
all_total (r ∷ rs) = omega (arith, all_total rs, length-append (postfix r) (flatten (map postfix rs)))

all_many : (rs : List Re) → length (map as_rule rs) ≡ length rs
all_many [] = refl
all_many (r ∷ rs) = omega (arith, all_many rs)

all_mean : (rs : List Re) → map expression (map as_rule rs) ≡ rs
all_mean [] = refl
all_mean (r ∷ rs) =
    let one : expression (as_rule r) ≡ r = ap top (postfix_run r []) in
    let more = all_mean rs in
    cc

pub book_for : (rs : List Re) → 1 ≤ length rs → length rs ≤ rules → AllOfBytes rs → length (flatten (map postfix rs)) ≤ nodes → BookFor rs
book_for rs some few f small =
    record {
      b = record { version = last_version; rules = map as_rule rs };
      valid =
          record {
            known = (omega arith, omega arith);
            some = omega (arith, all_many rs);
            few = omega (arith, all_many rs);
            valid = all_valid rs f;
            small = omega (arith, all_total rs);
          };
      means = all_mean rs;
    }

-- ---- an Either

byte_alone : (c : ℕ) (w : Text) → (w ≡ c ∷ []) ↔ OneByte c c w
byte_alone c w = (
  λ e. record { byte = c; only = e; above = omega arith; below = omega arith },
  λ o. let same : o.byte ≡ c = omega (arith, o.above, o.below) in o.only ∙ ap (λ (x : ℕ). x ∷ []) same,
)

pub either_means : (x y : ℕ) (stack : List Re) (w : Text) → x ≡ y + 32
    → ((w ≡ x ∷ []) ⊎ (w ≡ y ∷ [])) ↔ Matches (top (run_nodes (Either x ∷ []) stack)) w
unfolding run_nodes stacked
either_means x y stack w e =
    let low : x - 32 ≡ y = omega arith in
    rw low (to, back)
  where
    to : ((w ≡ x ∷ []) ⊎ (w ≡ y ∷ [])) → OneByte y y w ⊎ OneByte x x w
    to (inl h) = inr ((byte_alone x w).0 h)
    to (inr h) = inl ((byte_alone y w).0 h)

    back : OneByte y y w ⊎ OneByte x x w → (w ≡ x ∷ []) ⊎ (w ≡ y ∷ [])
    back (inl h) = inr ((byte_alone y w).1 h)
    back (inr h) = inl ((byte_alone x w).1 h)

-- ---- an And, and a Not

pub and_means : (a b : Re) (stack : List Re) (w : Text)
    → (Matches a w × Matches b w) ↔ Matches (top (run_nodes (And ∷ []) (b ∷ a ∷ stack))) w
unfolding run_nodes stacked
and_means a b stack w = (λ h. h, λ h. h)

pub not_means : (a : Re) (stack : List Re) (w : Text) → (Matches a w → ⊥) ↔ Matches (top (run_nodes (Not ∷ []) (a ∷ stack))) w
unfolding run_nodes stacked
not_means a stack w = (λ h. h, λ h. h)
