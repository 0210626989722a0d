-- Which codes a version has, told by the last of them; so a book of version 1 has neither And nor Not.
-- Also that a valid book is a book of version 2 with the same rules.
use Rattle.std.specs.Prelude.{ℕ, zero, suc, ◌+◌, ◌-◌, ◌≤◌, ◌≡◌, refl, List, [], ◌∷◌, ◌++◌, leb}
use Rattle.std.proofs.Common.{arith, sym, ap, subst, ◌∙◌, leb-true, leb-false, le-leb, eq-eqb, ne_eqb}
use Rattle.std.proofs.Math.Decide.{dec_lt}
use Rattle.std.proofs.lemmas.Bool.{lt-leb}
use Rattle.number.specs.Limits.{first_version, code_either, code_and, code_not}
use Rattle.meaning.specs.Tests.{clash}
use Rattle.book.specs.declared.Node.{Node}
use Rattle.book.specs.declared.Node.TheVariants.{And, Not}
use Rattle.book.specs.Book.{Rule, Book, code_of, listed, allowed, takes}
use Rattle.book.specs.Valid.{Allowed, CodesUpTo, Within, Leaves, ValidRule, AllValid, Known, ValidBook}

-- ---- the codes of a version

-- the numbers from m on, k of them
abbrev from : ℕ → ℕ → List ℕ
from m zero = []
from m (suc k) = m ∷ from (suc m) k

-- a number that is not below m is among m and k more exactly where it is not above the last
from_listed : (k m c : ℕ) → m ≤ c → listed (m ∷ from (suc m) k) c ≡ leb c (m + k)
from_listed zero m c h =
    elim (dec_lt m c) [
      | yes l ↦ rw (ne_eqb c m (λ e. omega arith), lt-leb c (m + 0) (omega arith)) refl
      | no l ↦ rw (eq-eqb c m (omega arith), le-leb c (m + 0) (omega arith)) refl
    ]
from_listed (suc k) m c h =
    elim (dec_lt m c) [
      | yes l ↦ rw (ne_eqb c m (λ e. omega arith)) (from_listed k (suc m) c (omega arith) ∙ ap (leb c) (omega arith))
      | no l ↦ rw (eq-eqb c m (omega arith), le-leb c (m + suc k) (omega arith)) refl
    ]

pub first_allowed : (v c : ℕ) → v ≡ first_version → allowed v c ≡ leb c code_either
unfolding allowed
first_allowed v c e = rw (eq-eqb v first_version e) (from_listed code_either 0 c (omega arith))

pub later_allowed : (v c : ℕ) → (v ≡ first_version → ⊥) → allowed v c ≡ leb c code_not
unfolding allowed
later_allowed v c e = rw (ne_eqb v first_version e) (from_listed code_not 0 c (omega arith))

up_to : (v last : ℕ) → ((c : ℕ) → allowed v c ≡ leb c last) → CodesUpTo v last
up_to v last e =
    record {
      has = λ c. (λ h. leb-true c last (sym (e c) ∙ h), λ h. e c ∙ le-leb c last h);
      lacks = λ c. (λ h. leb-false c last (sym (e c) ∙ h), λ h. e c ∙ lt-leb c last h);
    }

pub codes_first : CodesUpTo 1 6
codes_first = up_to 1 6 λ c. first_allowed 1 c refl

pub codes_second : CodesUpTo 2 8
codes_second = up_to 2 8 λ c. later_allowed 2 c (λ e. omega arith)

-- ---- one node of a valid book

rule_within : (v : ℕ) (before behind : List Rule) (q : Rule) → AllValid v (before ++ (q ∷ behind)) → ValidRule v q
rule_within v [] behind q h = h.0
rule_within v (r ∷ before) behind q h = rule_within v before behind q h.1

node_within : (v terms : ℕ) (front back : List Node) (n : Node) → Leaves v terms (front ++ (n ∷ back)) → Within v n
node_within v terms [] back n h = h.0
node_within v terms (m ∷ front) back n h = node_within v (terms - takes m + 1) front back n h.2

-- it is a node of the book's version
pub node_allowed : (b : Book) → ValidBook b
    → (before behind : List Rule) (q : Rule) → b.rules ≡ before ++ (q ∷ behind)
    → (front back : List Node) (n : Node) → q.nodes ≡ front ++ (n ∷ back) → Within b.version n
node_allowed b valid before behind q e front back n f =
    let rule = rule_within b.version before behind q (subst (AllValid b.version) e valid.valid) in
    node_within b.version 0 front back n (subst (Leaves b.version 0) f rule.leaves)

-- so in version 1 it is neither And nor Not
pub first_neither : (v : ℕ) (n : Node) → v ≡ 1 → Within v n → (n ≡ And → ⊥) × (n ≡ Not → ⊥)
first_neither v n one w = (
  λ e. let known : Allowed 1 code_and = rw (one, e) at w.0 in clash known (first_allowed 1 code_and refl),
  λ e. let known : Allowed 1 code_not = rw (one, e) at w.0 in clash known (first_allowed 1 code_not refl),
)

-- ---- a valid book as one of version 2

leaves_second : (v terms : ℕ) (ns : List Node) → ((c : ℕ) → Allowed v c → Allowed 2 c) → Leaves v terms ns → Leaves 2 terms ns
leaves_second v terms [] up h = h
leaves_second v terms (n ∷ ns) up h = ((up (code_of n) h.0.0, h.0.1), h.1, leaves_second v (terms - takes n + 1) ns up h.2)

all_second : (v : ℕ) (rs : List Rule) → ((c : ℕ) → Allowed v c → Allowed 2 c) → AllValid v rs → AllValid 2 rs
all_second v [] up h = tt
all_second v (r ∷ rs) up h = (
  record { kind_fits = h.0.kind_fits; some = h.0.some; leaves = leaves_second v 0 r.nodes up h.0.leaves },
  all_second v rs up h.1,
)

-- no code is lost
code_second : (v c : ℕ) → Known v → Allowed v c → Allowed 2 c
code_second (suc zero) c known h = let small : c ≤ 6 = (codes_first.has c).0 h in (codes_second.has c).1 (omega arith)
code_second (suc (suc zero)) c known h = h
code_second zero c known h = absurd (omega (arith, known.0))
code_second (suc (suc (suc v))) c known h = absurd (omega (arith, known.1))

pub book_second : (b : Book) → ValidBook b → ValidBook (record { version = 2; rules = b.rules })
book_second b h =
    record {
      known = (omega arith, omega arith);
      some = h.some;
      few = h.few;
      valid = all_second b.version b.rules (λ c. code_second b.version c h.known) h.valid;
      small = h.small;
    }
