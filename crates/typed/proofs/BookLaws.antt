-- Lines in range are a book that is read back whole, and each of its rules stands for its line; and how long the book's bytes can be.
-- The length is by the widths of numbers: one byte below 128, two below 16,384.
use Rattle.std.specs.Prelude.{ℕ, ◌+◌, ◌-◌, ◌*◌, ◌≤◌, ◌<◌, ◌≡◌, refl, List, [], ◌∷◌, ◌++◌, map, length}
use Rattle.std.proofs.Common.{arith, sym, ap, subst, ◌∙◌, append-nil, length-append}
use Rattle.number.specs.Limits.{group, two_groups, rules, nodes}
use Rattle.number.specs.Numbers.{write_number}
use Rattle.number.proofs.NumberLaws.{Written, write_way}
use Rattle.number.proofs.NumberLaws.Written.{one, two, three}
use Rattle.number.specs.Refused.{Outcome}
use Rattle.number.specs.Refused.Outcome.{gives}
use Rattle.meaning.specs.Re.{Re, Text}
use Rattle.meaning.specs.Lang.{Same}
use Rattle.meaning.specs.Means.{Matches}
use Rattle.book.specs.declared.Node.{Node}
use Rattle.book.specs.declared.Node.TheVariants.{Nothing, Empty, Range, Cat, Alt, Star, Either, And, Not}
use Rattle.book.specs.Book.{Rule, Book, code_of, takes, total, write_fields, write_node, write_nodes, write_rule, write_rules, write_book}
use Rattle.book.specs.Valid.{InFields, Leaves, ValidRule, AllValid, ValidBook}
use Rattle.book.specs.Expression.{run_nodes, top, expression}
use Rattle.book.specs.ReadLaws.{book_written}
use Rattle.book.specs.ReadLawsWritten.{code_small}
use Rattle.typed.specs.Exp.{Exp, Means, postfix}
use Rattle.typed.specs.Lines.{Line, SpellsAll}
use Rattle.typed.specs.Lines.Line.{rule}
use Rattle.typed.proofs.LineLaws.{the_typing}
use Rattle.typed.specs.Calls.{rule_of, book_of, book_bytes}
use Rattle.typed.specs.PostfixLaws.{re, re_means, postfix_run}
use Rattle.typed.specs.CallLaws.{all_fit, book_valid}
use Rattle.typed.specs.AnswerLaws.{Way, answer_way, when_right}
use Rattle.typed.specs.AnswerLaws.Way.{mistyped, no_rule_lem, too_much_lem, the_rules}
use Rattle.typed.proofs.RangeLaws.{none_limits, limits_none}
use Rattle.typed.specs.Bought.{Stands, EachStands, InLimits, TypedBook}
use Rattle.typed.specs.Bought.EachStands.{no_rule_lem as none-stands, one_rule}

-- ---- each rule stands for its line

leaves_re : (e : Exp) → run_nodes (postfix e) [] ≡ re e ∷ []
unfolding run_nodes
leaves_re e = sym (ap (λ (ns : List Node). run_nodes ns []) (append-nil (postfix e))) ∙ postfix_run e [] []

rule_stands : (k : ℕ) (e : Exp) → Stands k e (rule_of (rule k e))
rule_stands k e =
    let t : expression (rule_of (rule k e)) ≡ re e = ap top (leaves_re e) in
    record {
      kind = refl;
      nodes = refl;
      one_term = leaves_re e ∙ ap (λ (r : Re). r ∷ []) (sym t);
      means = subst (λ (r : Re). Same (Means e) (Matches r)) (sym t) (re_means e);
    }

each_stands : (ls : List Line) → EachStands ls (map rule_of ls)
each_stands [] = none-stands
each_stands (rule k e ∷ ls) = one_rule (rule_stands k e) (each_stands ls)

book_stands : (ls : List Line) → EachStands ls (book_of ls).rules
unfolding book_of
book_stands ls = each_stands ls

-- ---- the book

pub book_typed : (text bytes : List ℕ) → book_bytes text ≡ gives bytes → TypedBook text bytes
book_typed text bytes e = by_way (answer_way text) e
  where
    by_way : {x : Outcome (List ℕ)} → Way text x → x ≡ gives bytes → TypedBook text bytes
    by_way (mistyped q r) d = absurd (let z : ◌≡◌ {A = ℕ} 0 1 = cc in omega arith)
    by_way (no_rule_lem r) d = absurd (let z : ◌≡◌ {A = ℕ} 0 1 = cc in omega arith)
    by_way (too_much_lem l ls i r f) d = absurd (let z : ◌≡◌ {A = ℕ} 0 1 = cc in omega arith)
    by_way (the_rules l ls r f) d =
        let w : write_book (book_of (l ∷ ls)) ≡ bytes = cc in
        let a = (the_typing text (l ∷ ls)).0 r in
        let v = book_valid l ls (all_fit a) f in
        record {
          lines = l ∷ ls;
          spells = a;
          some = omega arith;
          limits = none_limits (l ∷ ls) a f;
          written = w;
          valid = v;
          reads = rw (← w) (book_written (book_of (l ∷ ls)) v);
          stands = book_stands (l ∷ ls);
        }

pub typed_book : (text : Text) (ls : List Line) → SpellsAll text ls → 1 ≤ length ls → InLimits ls → book_bytes text ≡ gives (write_book (book_of ls))
typed_book text [] a s h = absurd (omega arith)
typed_book text (l ∷ ls) a s h = when_right text l ls ((the_typing text (l ∷ ls)).1 a) (limits_none (l ∷ ls) h)

-- ---- its length

narrow : (n : ℕ) → n < group → length (write_number n) ≤ 1
narrow n h = by_width (write_way n)
  where
    by_width : {w : List ℕ} → Written n w → length w ≤ 1
    by_width (one k) = omega arith
    by_width (two k l) = absurd (omega arith)
    by_width (three k) = absurd (omega arith)

wide : (n : ℕ) → n < two_groups → length (write_number n) ≤ 2
wide n h = by_width (write_way n)
  where
    by_width : {w : List ℕ} → Written n w → length w ≤ 2
    by_width (one k) = omega arith
    by_width (two k l) = omega arith
    by_width (three k) = absurd (omega arith)

-- the longest node is a range of two bytes from 128 on
fields_long : (n : Node) → InFields n → length (write_fields n) ≤ 4
fields_long Nothing h = omega arith
fields_long Empty h = omega arith
fields_long (Range lo hi) h = omega (arith, length-append (write_number lo) (write_number hi), wide lo (omega arith), wide hi (omega arith))
fields_long Cat h = omega arith
fields_long Alt h = omega arith
fields_long Star h = omega arith
fields_long (Either x) h = omega (arith, wide x (omega arith))
fields_long And h = omega arith
fields_long Not h = omega arith

node_long : (n : Node) → InFields n → length (write_node n) ≤ 5
unfolding write_node
node_long n h = omega (arith, length-append (write_number (code_of n)) (write_fields n), narrow (code_of n) (code_small n), fields_long n h)

nodes_long : (v terms : ℕ) (ns : List Node) → Leaves v terms ns → length (write_nodes ns) ≤ 5 * length ns
unfolding write_nodes
nodes_long v terms [] h = omega arith
nodes_long v terms (n ∷ ns) h =
    omega (arith, length-append (write_node n) (write_nodes ns), node_long n h.0.1, nodes_long v (terms - takes n + 1) ns h.2)

rule_long : (v : ℕ) (r : Rule) → ValidRule v r → length r.nodes ≤ nodes → length (write_rule r) ≤ 4 + 5 * length r.nodes
unfolding write_rule
rule_long v r k h =
    let kind : ℕ = r.kind in
    let m : ℕ = length r.nodes in
    omega (
      arith,
      length-append (write_number kind) (write_number m ++ write_nodes r.nodes),
      length-append (write_number m) (write_nodes r.nodes),
      wide kind (omega (arith, k.kind_fits)),
      wide m (omega arith),
      nodes_long v 0 r.nodes k.leaves,
    )

rules_long : (v : ℕ) (rs : List Rule) → AllValid v rs → total rs ≤ nodes → length (write_rules rs) ≤ 4 * length rs + 5 * total rs
unfolding write_rules total
rules_long v [] k h = omega arith
rules_long v (r ∷ rs) k h =
    omega (arith, length-append (write_rule r) (write_rules rs), rule_long v r k.0 (omega arith), rules_long v rs k.1 (omega arith))

-- version and count one byte each, 32 kinds and node counts of two, 512 nodes of five
pub book_long : (b : Book) → ValidBook b → length (write_book b) ≤ 2 + rules * 4 + nodes * 5
unfolding write_book
book_long b v =
    let rs : List Rule = b.rules in
    omega (
      arith,
      length-append (write_number b.version) (write_number (length rs) ++ write_rules rs),
      length-append (write_number (length rs)) (write_rules rs),
      narrow b.version (omega (arith, v.known)),
      narrow (length rs) (omega (arith, v.few)),
      rules_long b.version rs v.valid v.small,
      v.few,
      v.small,
    )
