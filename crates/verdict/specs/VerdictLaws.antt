-- The steps to the theorems of Main, from the laws of rules, labels, cuts and walks to what is answered of a book.
-- A book that is read is compared as its rules are; what a walk comes to is what is answered.
use Rattle.std.specs.Prelude.{ℕ, suc, ◌≤◌, ◌≡◌, refl, List, ◌↔◌, length}
use Rattle.std.proofs.Common.{sym, ap, subst, ◌∙◌, arith}
use Rattle.number.specs.declared.Refusal.TheVariants.{Long}
use Rattle.number.specs.Limits.{pairs, pool}
use Rattle.number.specs.Numbers.{Bytes}
use Rattle.number.specs.Refused.{Answer, Outcome, row_of}
use Rattle.number.specs.Refused.Answer.{got, refused}
use Rattle.number.specs.Refused.Outcome.{gives, refuses}
use Rattle.meaning.specs.Re.{Re, Text}
use Rattle.meaning.specs.Rules.{label_after}
use Rattle.meaning.proofs.RulesMean.{names_after}
use Rattle.book.specs.Book.{Book}
use Rattle.book.specs.Reads.{read_book}
use Rattle.book.specs.Expression.{meant}
use Rattle.table.specs.Table.{Table}
use Rattle.cutting.specs.Steps.{label_of}
use Rattle.walk.specs.Walk.{Way}
use Rattle.walk.specs.Passing.{Limits}
use Rattle.walk.specs.WiderLaws.{wider_gives, wider_refuses, long_stays}
use Rattle.built.specs.Calls.{build_read, build_book}
use Rattle.verdict.specs.Compare.{beside_to, Verdict, compared_by, compare_rules_to, compare_rules}
use Rattle.verdict.specs.Compare.Verdict.{Same, Differs}
use Rattle.verdict.specs.Calls.{compare_read, compare_book}
use Rattle.verdict.specs.Demand.{CutAlike, WholeAlike, AgreeOn, Differ, held_pairs}
use Rattle.verdict.specs.CompareLaws.{compare_means, compare_same}
use Rattle.verdict.specs.PairLaws.{compare_limits}
use Rattle.verdict.specs.CutsAlike.{cuts_agree, cuts_label, shown_cuts, shown_first}
use Rattle.verdict.specs.OwnSheet.{own_same}

-- ---- cuts and labels

agree_on : (rs : List Re) (t : Table) (w : Text) → label_after rs w ≡ label_of t w → AgreeOn rs t w
agree_on rs t w e = rw (← e) (names_after rs w)

-- ---- a book that is read, against a table

module _ (file : List ℕ) (b : Book) (after : ℕ) (t : Table) (read : read_book file ≡ got b after) where
  rules_of : (o : Outcome Verdict) → compare_book file t ≡ o → compare_rules t (meant b) ≡ o
  rules_of o e = sym (ap (compare_read t) read) ∙ e

  pub same_alike : compare_book file t ≡ gives Same → (room at : ℕ) (text : Text) → Bytes text → CutAlike (meant b) t room at text
  same_alike e = cuts_agree (meant b) t (compare_means (meant b) t Same (rules_of (gives Same) e))

  pub same_exactly : (v : Verdict) → compare_book file t ≡ gives v → (v ≡ Same) ↔ ((text : Text) → Bytes text → WholeAlike (meant b) t text)
  same_exactly v e = (
    λ s text k. same_alike (e ∙ ap gives s) (length text) 0 text k,
    λ a. compare_same (meant b) t v (rules_of (gives v) e) (λ w k l. cuts_label (meant b) t w l (a w k)),
  )

  pub shown_differs : (text : Text) (x y : ℕ) → compare_book file t ≡ gives (Differs text x y) → Differ (meant b) t text x y
  shown_differs text x y e =
      let s = compare_means (meant b) t (Differs text x y) (rules_of (gives (Differs text x y)) e) in
      record {
        is_text = s.is_text;
        some = s.some;
        short = s.short;
        by_book = rw (← s.by_book) (names_after (meant b) text);
        by_table = s.by_table;
        differ = s.differ;
        cuts_differ = shown_cuts (meant b) t text x y s;
        first = shown_first (meant b) t text x y s;
        first_label = λ w k l f. s.first w k l (λ d. f (agree_on (meant b) t w d));
      }

  pub limits_at : Limits (held_pairs (meant b) t) (row_of (compare_book file t))
  limits_at = subst (λ (o : Outcome Verdict). Limits (held_pairs (meant b) t) (row_of o)) (sym (ap (compare_read t) read)) (compare_limits (meant b) t)

-- ---- wider limits

module _ (most terms : ℕ) (less : most ≤ pairs) (fewer : terms ≤ pool) (t : Table) (rs : List Re) where
  abbrev way : Way
  way = beside_to most terms t

  pub wider_answered : (v : Verdict) → compare_rules_to most terms t rs ≡ gives v → compare_rules t rs ≡ gives v
  unfolding compare_rules
  wider_answered v = wider_gives way (suc pairs) pool (omega arith) fewer (compared_by t) (λ r. refl) rs v

  pub wider_long : (at : ℕ) → compare_rules_to most terms t rs ≡ refuses (Long at) → compare_rules t rs ≡ refuses (Long at)
  unfolding compare_rules
  wider_long at = wider_refuses way (suc pairs) pool (omega arith) fewer (compared_by t) (λ r. refl) rs (Long at) (long_stays way at (λ p e. omega arith))

-- ---- the own table

pub own_table : (file : List ℕ) (t : Table) → build_book file ≡ gives t → compare_book file t ≡ gives Same
own_table file t e = go (read_book file) e
  where
    go : (x : Answer Book) → build_read x ≡ gives t → compare_read t x ≡ gives Same
    go (got b after) d = own_same (meant b) t d
    go (refused r) d = absurd (let z : ◌≡◌ {A = ℕ} 0 1 = cc in omega arith)
