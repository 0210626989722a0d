-- Finding a name: the first that a part of the text begins is the part's, and a part as long as it is all of it.
-- Sets are looked through in their order.
use Rattle.std.specs.Prelude.{ℕ, ◌+◌, ◌<◌, ◌≤◌, ◌≡◌, refl, Bool, true, false, cond, ◌&&◌, List, [], ◌∷◌, eqb, length, drop}
use Rattle.std.specs.List.{starts_with}
use Rattle.std.proofs.Common.{arith, rules, sym, ap, ◌∙◌, eq-eqb}
use Rattle.typed.specs.Sets.{Set, named, sets}
use Rattle.typed.specs.Sets.Set.{alnum, alpha, blank, cntrl, digit, graph, lower, print, punct, space, upper, xdigit}
use Rattle.typed.specs.Reader.{Known, known, starts}
use Rattle.typed.specs.Reader.Known.{unknown, begun, whole}
use Rattle.laid.specs.Tables.{set_at}
use Rattle.laid.specs.TableLaws.{of_each}
use Rattle.names.specs.declared.Naming.{Naming}
use Rattle.names.specs.declared.Naming.TheVariants.{Unknown, Begun, Whole}
use Rattle.names.specs.Names.{number, told}

-- std's test is the definitions'
pub starts_is : (w n : List ℕ) → starts_with eqb n w ≡ starts w n
unfolding starts
starts_is [] n = refl
starts_is (x ∷ w) [] = refl
starts_is (x ∷ w) (y ∷ n) = ap (eqb x y &&◌) (starts_is w n)

starts_longer : (v w : List ℕ) → length w < length v → starts v w ≡ false
unfolding starts
starts_longer [] w h = absurd (omega arith)
starts_longer (x ∷ v) [] h = refl
starts_longer (x ∷ v) (y ∷ w) h = rw (starts_longer v w (omega arith)) (by_byte (eqb x y))
  where
    by_byte : (a : Bool) → a && false ≡ false
    by_byte true = refl
    by_byte false = refl

-- one that begins another is the other, where they are as long
starts_back : (v w : List ℕ) → length v ≡ length w → starts v w ≡ true → v ≡ w
unfolding starts
starts_back [] [] l h = refl
starts_back [] (y ∷ w) l h = absurd (omega arith)
starts_back (x ∷ v) [] l h = absurd (omega arith)
starts_back (x ∷ v) (y ∷ w) l h = grind (arith, starts_back v w (omega arith))

starts_self : (v : List ℕ) → starts v v ≡ true
unfolding starts
starts_self [] = refl
starts_self (x ∷ v) = rw (starts_self v, eq-eqb x x refl) refl

sets_from : (k : ℕ) → k < 12 → drop k sets ≡ set_at k ∷ drop (k + 1) sets
sets_from k h = of_each (λ k. drop k sets ≡ set_at k ∷ drop (k + 1) sets) refl refl refl refl refl refl refl refl refl refl refl refl k h

number_at : (k : ℕ) → k < 12 → number (set_at k) ≡ k
number_at k h = of_each (λ k. number (set_at k) ≡ k) refl refl refl refl refl refl refl refl refl refl refl refl k h

-- the code's names are the sets'
pub by_number : (A : Type 0) → (k : ℕ) → k < 12 → (k ≡ 0 → A) → (k ≡ 1 → A) → (k ≡ 2 → A) → (k ≡ 3 → A) → (k ≡ 4 → A) → (k ≡ 5 → A) → (k ≡ 6 → A)
    → (k ≡ 7 → A) → (k ≡ 8 → A) → (k ≡ 9 → A) → (k ≡ 10 → A) → (k ≡ 11 → A) → A
by_number A k h a b c d e f g i j l m n =
    of_each (λ q. k ≡ q → A) a b c d e f g i j l m n k h refl

module _ (w : List ℕ) (k : ℕ) (l : k < 12) (inv : known w sets ≡ known w (drop k sets)) where
  looked : known w sets ≡ cond (starts w (named (set_at k))) (cond (starts (named (set_at k)) w) (whole (set_at k)) begun) (known w (drop (k + 1) sets))
  unfolding known
  looked = inv ∙ ap (known w) (sets_from k l)

  module _ (r : Bool) (n : List ℕ) (h : r ≡ starts_with eqb n w) (z : n ≡ named (set_at k)) where
    tested : starts w (named (set_at k)) ≡ r
    tested = sym (h ∙ starts_is w n ∙ ap (starts w) z)

    pub known_whole : r ≡ true → length n ≡ length w → Whole k ≡ told (known w sets)
    known_whole t e =
        rw (looked, tested, t, starts_back w (named (set_at k)) (sym (sym (ap length z) ∙ e)) (tested ∙ t), starts_self (named (set_at k)), number_at k l) refl

    pub known_begun : r ≡ true → length w ≤ length n → (length n ≡ length w → ⊥) → Begun ≡ told (known w sets)
    known_begun t e f =
        let g : length w < length (named (set_at k)) = omega (arith, ap length z) in
        rw (looked, tested, t, starts_longer (named (set_at k)) w g) refl

    pub known_miss : r ≡ false → known w sets ≡ known w (drop (k + 1) sets)
    known_miss t = looked ∙ rw (tested, t) refl

pub known_none : (w : List ℕ) (k : ℕ) → k ≤ 12 → 12 ≤ k → known w sets ≡ known w (drop k sets) → Unknown ≡ told (known w sets)
unfolding known
known_none w k l h e = let z : k ≡ 12 = omega arith in rw (e, z) refl

-- what the code tells, told back
number_small : (s : Set) → number s < 12
number_small alnum = omega arith
number_small alpha = omega arith
number_small blank = omega arith
number_small cntrl = omega arith
number_small digit = omega arith
number_small graph = omega arith
number_small lower = omega arith
number_small print = omega arith
number_small punct = omega arith
number_small space = omega arith
number_small upper = omega arith
number_small xdigit = omega arith

at_number : (s : Set) → s ≡ set_at (number s)
at_number alnum = refl
at_number alpha = refl
at_number blank = refl
at_number cntrl = refl
at_number digit = refl
at_number graph = refl
at_number lower = refl
at_number print = refl
at_number punct = refl
at_number space = refl
at_number upper = refl
at_number xdigit = refl

whole_of : Naming → ℕ
whole_of Unknown = 0
whole_of Begun = 0
whole_of (Whole k) = k

pub is_set : (x : Known) (k : ℕ) → Whole k ≡ told x → (k < 12) × (x ≡ whole (set_at k))
unfolding whole_of
is_set unknown k e = absurd (search rules)
is_set begun k e = absurd (search rules)
is_set (whole s) k e =
    let z : k ≡ number s = ap whole_of e in
    (omega (arith, z, number_small s), ap whole (at_number s ∙ ap set_at (sym z)))

pub is_begun : (x : Known) → Begun ≡ told x → x ≡ begun
is_begun unknown e = absurd (search rules)
is_begun begun e = refl
is_begun (whole s) e = absurd (search rules)

pub is_unknown : (x : Known) → Unknown ≡ told x → x ≡ unknown
is_unknown unknown e = refl
is_unknown begun e = absurd (search rules)
is_unknown (whole s) e = absurd (search rules)
