-- Lines that are typed fit their fields, and lines in range are a valid book, which is therefore read back whole.
-- The bounds come from the grammar: a byte is a bare one or two hex digits.
use Rattle.std.specs.Prelude.{ℕ, ◌+◌, ◌≤◌, ◌<◌, ◌≡◌, refl, Bool, true, false, ◌||◌, List, [], ◌∷◌, ◌++◌, map, ltb, length}
use Rattle.std.proofs.Common.{arith, subst, append-nil, inl, inr, ltb-false}
use Rattle.std.proofs.Math.Option.{Option}
use Rattle.std.proofs.Math.Option.Option.{none, some}
use Rattle.std.proofs.lemmas.List.{length-map}
use Rattle.number.specs.Limits.{first_version, rules, kinds, nodes, last_byte}
use Rattle.number.specs.Branch.{by_cond}
use Rattle.meaning.specs.Re.{Text}
use Rattle.meaning.specs.Tests.{or_true}
use Rattle.book.specs.declared.Node.{Node}
use Rattle.book.specs.Book.{total}
use Rattle.book.specs.Valid.{Leaves, ValidRule, AllValid, ValidBook}
use Rattle.typed.specs.Exp.{Exp, postfix}
use Rattle.typed.specs.Spells.{between, bare, hex, Part, Spells}
use Rattle.typed.specs.Spells.Spells.{itself, escaped, dotted, among, hollow, grouped, unmarked, starred, plussed, optional, alone, next, only, or}
use Rattle.typed.specs.Lines.{Line, SpellsLine, SpellsAll}
use Rattle.typed.specs.Lines.Line.{rule}
use Rattle.typed.specs.Lines.SpellsLine.{line}
use Rattle.typed.specs.Lines.SpellsAll.{no_line, one_more}
use Rattle.typed.specs.Calls.{rule_of, book_of, out_of, fault}
use Rattle.typed.specs.TestLaws.{between_true, or_false}
use Rattle.typed.specs.PostfixLaws.{Fits, postfix_leaves}

-- ---- lines in range are a valid book

pub data AllFit : List Line → Type 0 where
  none_fit : AllFit []
  more_fit : {k : ℕ} {e : Exp} {ls : List Line} → Fits e → AllFit ls → AllFit (rule k e ∷ ls)

some_nodes : (ns : List Node) → Leaves first_version 0 ns → 1 ≤ length ns
some_nodes [] h = absurd (omega (arith, h))
some_nodes (n ∷ ns) h = omega arith

rule_valid : (k : ℕ) (e : Exp) → k ≤ kinds → Fits e → ValidRule first_version (rule_of (rule k e))
rule_valid k e h f =
    let l : Leaves first_version 0 (postfix e) = subst (Leaves first_version 0) (append-nil (postfix e)) (postfix_leaves e [] 0 f (omega arith)) in
    record { kind_fits = h; some = some_nodes (postfix e) l; leaves = l }

-- what the test of a line says
pub in_of : (i t k m : ℕ) → out_of i t k m ≡ false → (i + 1 ≤ rules) × (k ≤ kinds) × (t + m ≤ nodes)
unfolding out_of
in_of i t k m z =
    let a = or_false (ltb rules (i + 1)) (ltb kinds k || ltb nodes (t + m)) z in
    let b = or_false (ltb kinds k) (ltb nodes (t + m)) a.1 in
    (ltb-false rules (i + 1) a.0, ltb-false kinds k b.0, ltb-false nodes (t + m) b.1)

pub record InRange (i t : ℕ) (ls : List Line) : Type 0 where
  pub few : i ≤ rules → i + length ls ≤ rules
  pub valid : AllValid first_version (map rule_of ls)
  pub small : t ≤ nodes → t + total (map rule_of ls) ≤ nodes

pub in_range : (i t : ℕ) (ls : List Line) → AllFit ls → fault i t ls ≡ none → InRange i t ls
unfolding fault total
in_range i t [] f h = record { few = λ l. omega arith; valid = tt; small = λ l. omega arith }
in_range i t (rule k e ∷ ls) (more_fit x f) h = by_test (out_of i t k (length (postfix e))) refl h (in_range (i + 1) (t + length (postfix e)) ls f)
  where
    by_test : (b : Bool) → out_of i t k (length (postfix e)) ≡ b
        → ◌≡◌ {A = Option ℕ} (elim b [ true ↦ some i | false ↦ fault (i + 1) (t + length (postfix e)) ls ]) none
        → (fault (i + 1) (t + length (postfix e)) ls ≡ none → InRange (i + 1) (t + length (postfix e)) ls) → InRange i t (rule k e ∷ ls)
    by_test true z h ih = let y : ◌≡◌ {A = ℕ} 0 1 = cc in absurd (omega arith)
    by_test false z h ih =
        let b = in_of i t k (length (postfix e)) z in
        let r = ih h in
        record {
          few = λ _. omega (arith, r.few b.0);
          valid = (rule_valid k e b.1 x, r.valid);
          small = λ _. omega (arith, r.small b.2);
        }

pub book_valid : (l : Line) (ls : List Line) → AllFit (l ∷ ls) → fault 0 0 (l ∷ ls) ≡ none → ValidBook (book_of (l ∷ ls))
unfolding book_of
book_valid l ls f h =
    let r = in_range 0 0 (l ∷ ls) f h in
    record {
      known = (omega arith, omega arith);
      some = omega arith;
      few = omega (arith, r.few (omega arith), length-map (l ∷ ls) rule_of);
      valid = r.valid;
      small = omega (arith, r.small (omega arith));
    }

-- ---- what is spelled fits

bare_small : (c : ℕ) → bare c ≡ true → c ≤ last_byte
unfolding bare
bare_small c h =
    elim (or_true (between 65 90 c) (between 97 122 c || (between 48 57 c || between 32 32 c)) h) [
      | inl z ↦ omega (arith, between_true 65 90 c z)
      | inr y ↦ elim (or_true (between 97 122 c) (between 48 57 c || between 32 32 c) y) [
        | inl z ↦ omega (arith, between_true 97 122 c z)
        | inr x ↦ elim (or_true (between 48 57 c) (between 32 32 c) x) [
          | inl z ↦ omega (arith, between_true 48 57 c z)
          | inr z ↦ omega (arith, between_true 32 32 c z)
        ]
      ]
    ]

abbrev pub HexSmall : Option ℕ → Type 0
HexSmall none = Unit {0}
HexSmall (some x) = x < 16

pub hex_small : (c : ℕ) → HexSmall (hex c)
unfolding hex
hex_small c =
    by_cond HexSmall (between 48 57 c) (λ h. omega (arith, between_true 48 57 c h)) λ _.
    by_cond HexSmall (between 65 70 c) (λ h. omega (arith, between_true 65 70 c h)) λ _.
    by_cond HexSmall (between 97 102 c) (λ h. omega (arith, between_true 97 102 c h)) λ _. tt

small_at : (c x : ℕ) → hex c ≡ some x → x < 16
small_at c x h = subst HexSmall h (hex_small c)

pub spelled_fits : {p : Part} {n : ℕ} {w : Text} {e : Exp} → Spells p n w e → Fits e
spelled_fits (itself {c = c} h) = bare_small c h
spelled_fits (escaped {g = g} {h = h} {x = x} {y = y} d e) = omega (arith, small_at g x d, small_at h y e)
spelled_fits dotted = tt
spelled_fits (among s) = tt
spelled_fits hollow = tt
spelled_fits (grouped h) = spelled_fits h
spelled_fits (unmarked h) = spelled_fits h
spelled_fits (starred h) = spelled_fits h
spelled_fits (plussed h) = spelled_fits h
spelled_fits (optional h) = spelled_fits h
spelled_fits (alone h) = spelled_fits h
spelled_fits (next g h) = (spelled_fits g, spelled_fits h)
spelled_fits (only h) = spelled_fits h
spelled_fits (or g h) = (spelled_fits g, spelled_fits h)

both_fit : {ls ms : List Line} → AllFit ls → AllFit ms → AllFit (ls ++ ms)
both_fit none_fit b = b
both_fit (more_fit f a) b = more_fit f (both_fit a b)

line_fits : {w : Text} {l : Line} → SpellsLine w l → AllFit (l ∷ [])
line_fits (line k s) = more_fit (spelled_fits s) none_fit

pub all_fit : {w : Text} {ls : List Line} → SpellsAll w ls → AllFit ls
all_fit no_line = none_fit
all_fit (one_more a l) = both_fit (all_fit a) (line_fits l)
