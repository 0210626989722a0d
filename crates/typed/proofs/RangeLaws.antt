-- When lines are in range: `fault` finds none exactly where they are in the limits, and else the first with which they no longer are.
-- With the places of lines this says what a refusal of a number out of range means, and that it is told wherever that is so.
use Rattle.std.specs.Prelude.{ℕ, suc, ◌+◌, ◌≤◌, ◌≡◌, refl, Bool, true, false, List, [], ◌∷◌, ◌++◌, map, ◌↔◌, length}
use Rattle.std.proofs.Common.{arith, sym, ap, subst, ◌∙◌, append_assoc, append-nil, length-append, le-ltb}
use Rattle.std.proofs.Math.Option.Option.{none, some}
use Rattle.number.specs.declared.Refusal.TheVariants.{Range}
use Rattle.number.specs.Limits.{first_version, rules, kinds, nodes}
use Rattle.number.specs.Refused.{Outcome}
use Rattle.number.specs.Refused.Outcome.{refuses}
use Rattle.meaning.specs.Re.{Text}
use Rattle.meaning.specs.Tests.{clash}
use Rattle.book.specs.Book.{total}
use Rattle.book.specs.Valid.{AllValid}
use Rattle.typed.specs.Exp.{Exp, postfix}
use Rattle.typed.specs.Lines.{Line, SpellsLine, SpellsAll}
use Rattle.typed.specs.Lines.Line.{rule}
use Rattle.typed.specs.Lines.SpellsAll.{no_line, one_more}
use Rattle.typed.proofs.LineLaws.{the_typing}
use Rattle.typed.specs.Calls.{rule_of, out_of, fault, start_of, book_bytes}
use Rattle.typed.specs.CallLaws.{all_fit, in_of, in_range}
use Rattle.typed.specs.NewlineLaws.{start_after}
use Rattle.typed.specs.AnswerLaws.{Way, answer_way, when_none, when_out}
use Rattle.typed.specs.AnswerLaws.Way.{mistyped, no_rule_lem, too_much_lem, the_rules}
use Rattle.typed.specs.Bought.{KindsFit, InLimits, FirstOut, OutOfRange}
use Rattle.typed.specs.Bought.OutOfRange.{no_line as none_at_all, at_line}

-- nodes of all lines together
abbrev pub total_of : List Line → ℕ
total_of ls = total (map rule_of ls)

-- ---- one line more

not_out : (i t k m : ℕ) → i + 1 ≤ rules → k ≤ kinds → t + m ≤ nodes → out_of i t k m ≡ false
unfolding out_of
not_out i t k m a b c = rw (le-ltb rules (i + 1) a, le-ltb kinds k b, le-ltb nodes (t + m) c) refl

kinds_more : (ls : List Line) (k : ℕ) (e : Exp) → KindsFit ls → k ≤ kinds → KindsFit (ls ++ (rule k e ∷ []))
kinds_more [] k e f h = (h, tt)
kinds_more (rule j d ∷ ls) k e f h = (f.0, kinds_more ls k e f.1 h)

kinds_last : (ls : List Line) (k : ℕ) (e : Exp) → KindsFit (ls ++ (rule k e ∷ [])) → k ≤ kinds
kinds_last [] k e f = f.0
kinds_last (rule j d ∷ ls) k e f = kinds_last ls k e f.1

pub total_more : (ls : List Line) (k : ℕ) (e : Exp) → total_of (ls ++ (rule k e ∷ [])) ≡ total_of ls + length (postfix e)
unfolding total
total_more [] k e = omega arith
total_more (rule j d ∷ ls) k e = omega (arith, total_more ls k e)

pub limits_more : (ls : List Line) (k : ℕ) (e : Exp) → InLimits ls → out_of (length ls) (total_of ls) k (length (postfix e)) ≡ false → InLimits (ls ++ (rule k e ∷ []))
limits_more ls k e h z =
    let b = in_of (length ls) (total_of ls) k (length (postfix e)) z in
    record {
      few = omega (arith, length-append ls (rule k e ∷ []), b.0);
      kinds_fit = kinds_more ls k e h.kinds_fit b.1;
      small = omega (arith, total_more ls k e, b.2);
    }

pub limits_last : (ls : List Line) (k : ℕ) (e : Exp) → InLimits (ls ++ (rule k e ∷ [])) → out_of (length ls) (total_of ls) k (length (postfix e)) ≡ false
limits_last ls k e h =
    not_out (length ls) (total_of ls) k (length (postfix e)) (omega (arith, length-append ls (rule k e ∷ []), h.few))
    (kinds_last ls k e h.kinds_fit) (omega (arith, total_more ls k e, h.small))

-- ---- no fault

kinds_valid : (ls : List Line) → AllValid first_version (map rule_of ls) → KindsFit ls
kinds_valid [] v = tt
kinds_valid (rule k e ∷ ls) v = (v.0.kind_fits, kinds_valid ls v.1)

pub none_limits : {text : Text} (ls : List Line) → SpellsAll text ls → fault 0 0 ls ≡ none → InLimits ls
none_limits ls a h =
    let r = in_range 0 0 ls (all_fit a) h in
    record { few = omega (arith, r.few (omega arith)); kinds_fit = kinds_valid ls r.valid; small = omega (arith, r.small (omega arith)) }

-- what fault does with a line, in range and out of it
fault_on_lem : (i t k : ℕ) (e : Exp) (ls : List Line) → out_of i t k (length (postfix e)) ≡ false
    → fault i t (rule k e ∷ ls) ≡ fault (i + 1) (t + length (postfix e)) ls
unfolding fault
fault_on_lem i t k e ls h = rw (h, fault) refl

fault_here : (i t k : ℕ) (e : Exp) (ls : List Line) → out_of i t k (length (postfix e)) ≡ true → fault i t (rule k e ∷ ls) ≡ some i
unfolding fault
fault_here i t k e ls h = rw (h, fault) refl

no_fault : (i t : ℕ) (ls : List Line) → i + length ls ≤ rules → KindsFit ls → t + total_of ls ≤ nodes → fault i t ls ≡ none
unfolding fault total
no_fault i t [] a f b = refl
no_fault i t (rule k e ∷ ls) a f b =
    fault_on_lem i t k e ls (not_out i t k (length (postfix e)) (omega arith) f.0 (omega arith))
    ∙ no_fault (i + 1) (t + length (postfix e)) ls (omega arith) f.1 (omega arith)

pub limits_none : (ls : List Line) → InLimits ls → fault 0 0 ls ≡ none
limits_none ls h = no_fault 0 0 ls (omega (arith, h.few)) h.kinds_fit (omega (arith, h.small))

-- ---- a fault

first_fault : (i t : ℕ) (before : List Line) (k : ℕ) (e : Exp) (after : List Line) → i + length before ≤ rules → KindsFit before → t + total_of before ≤ nodes
    → out_of (i + length before) (t + total_of before) k (length (postfix e)) ≡ true → fault i t (before ++ (rule k e ∷ after)) ≡ some (i + length before)
unfolding total
first_fault i t [] k e after a f b h =
    let m : ℕ = length (postfix e) in
    let same : out_of i t k m ≡ out_of (i + 0) (t + 0) k m =
    ap (λ (j : ℕ). out_of j t k m) (omega arith) ∙ ap (λ (u : ℕ). out_of (i + 0) u k m) (omega arith) in
    fault_here i t k e after (same ∙ h) ∙ ap some (omega arith)
first_fault i t (rule j d ∷ before) k e after a f b h =
    let m : ℕ = length (postfix d) in
    let one : i + 1 + length before ≡ i + suc (length before) = omega arith in
    let two : t + m + total_of before ≡ t + (m + total_of before) = omega arith in
    fault_on_lem i t j d (before ++ (rule k e ∷ after)) (not_out i t j m (omega arith) f.0 (omega arith))
    ∙ first_fault (i + 1) (t + m) before k e after (omega arith) f.1 (omega arith)
    (ap (λ (x : ℕ). out_of x (t + m + total_of before) k (length (postfix e))) one ∙ ap (λ (x : ℕ). out_of (i + suc (length before)) x k (length (postfix e))) two ∙ h)
    ∙ ap some one

-- the same of a whole text's lines: the lines before are in range, and with this one they are not
pub out_of_lem : (before : List Line) (l : Line) (after : List Line) → InLimits before → (InLimits (before ++ (l ∷ [])) → ⊥)
    → fault 0 0 (before ++ (l ∷ after)) ≡ some (length before)
out_of_lem before (rule k e) after h n =
    let m : ℕ = length (postfix e) in
    let i : length before ≡ 0 + length before = omega arith in
    let t : total_of before ≡ 0 + total_of before = omega arith in
    let z : out_of (length before) (total_of before) k m ≡ true = by_test (out_of (length before) (total_of before) k m) refl in
    first_fault 0 0 before k e after (omega (arith, h.few)) h.kinds_fit (omega (arith, h.small))
    (sym (ap (λ (x : ℕ). out_of x (total_of before) k m) i ∙ ap (λ (x : ℕ). out_of (0 + length before) x k m) t) ∙ z)
    ∙ ap some (sym i)
  where
    by_test : (b : Bool) → out_of (length before) (total_of before) k (length (postfix e)) ≡ b → b ≡ true
    by_test true z = refl
    by_test false z = absurd (n (limits_more before k e h z))

pub out_refused : (text : Text) (p : ℕ) → OutOfRange text p → book_bytes text ≡ refuses (Range p)
out_refused text p (none_at_all e) = when_none text ((the_typing text []).1 (subst (λ (t : Text). SpellsAll t []) (sym e) no_line))
out_refused text p (at_line f) =
    let lines = f.before ++ (f.line ∷ f.after) in
    let here : start_of (length f.before) 0 text ≡ p =
    ap (start_of (length f.before) 0) f.parts ∙ start_after f.spelled (f.own ++ f.rest) ∙ sym f.place in
    when_out text lines (length f.before) ((the_typing text lines).1 f.whole) (out_of_lem f.before f.line f.after f.fits f.out)
    ∙ ap (λ (q : ℕ). refuses (Range q)) here

-- ---- lines from the first on, to walk with fault

data Fore : Text → List Line → Type 0 where
  no_more : Fore [] []
  first : {w t : Text} {l : Line} {ls : List Line} → SpellsLine w l → Fore t ls → Fore (w ++ t) (l ∷ ls)

fore_as : {v w : Text} {ls : List Line} → v ≡ w → Fore v ls → Fore w ls
fore_as {ls = ls} h f = subst (λ (t : Text). Fore t ls) h f

fore_last : {v w : Text} {ls : List Line} {l : Line} → Fore v ls → SpellsLine w l → Fore (v ++ w) (ls ++ (l ∷ []))
fore_last {w = w} no_more s = fore_as (append-nil w) (first s no_more)
fore_last {w = w} (first {w = u} {t = t} r f) s = fore_as (sym (append_assoc u t w)) (first r (fore_last f s))

fore_of : {v : Text} {ls : List Line} → SpellsAll v ls → Fore v ls
fore_of no_line = no_more
fore_of (one_more a s) = fore_last (fore_of a) s

fore_none : {v : Text} → Fore v [] → v ≡ []
fore_none no_more = refl

all_as : {v w : Text} {ls ms : List Line} → v ≡ w → ls ≡ ms → SpellsAll v ls → SpellsAll w ms
all_as {w = w} {ls = ls} h g a = subst (SpellsAll w) g (subst (λ (t : Text). SpellsAll t ls) h a)

-- lines v that are in range, and after them lines t in which fault finds the line i of all
found_out : {t : Text} {ls : List Line} (v : Text) (before : List Line) (i : ℕ)
    → Fore t ls → SpellsAll v before → SpellsAll (v ++ t) (before ++ ls) → InLimits before
    → fault (length before) (total_of before) ls ≡ some i → FirstOut (v ++ t) (start_of i 0 (v ++ t))
unfolding fault
found_out v before i no_more a whole h e = absurd (let z : none ≡ some i = e in let y : ◌≡◌ {A = ℕ} 0 1 = cc in omega arith)
found_out v before i (first {w = w} {t = t} {l = rule k d} {ls = ls} s f) a whole h e =
    by_test (out_of (length before) (total_of before) k (length (postfix d))) refl
    (λ c g b x. found_out (v ++ w) (before ++ (rule k d ∷ [])) i f c g b x)
  where
    by_test : (b : Bool) → out_of (length before) (total_of before) k (length (postfix d)) ≡ b
        → (SpellsAll (v ++ w) (before ++ (rule k d ∷ [])) → SpellsAll ((v ++ w) ++ t) ((before ++ (rule k d ∷ [])) ++ ls) → InLimits (before ++ (rule k d ∷ []))
        → fault (length (before ++ (rule k d ∷ []))) (total_of (before ++ (rule k d ∷ []))) ls ≡ some i → FirstOut ((v ++ w) ++ t) (start_of i 0 ((v ++ w) ++ t)))
        → FirstOut (v ++ (w ++ t)) (start_of i 0 (v ++ (w ++ t)))
    by_test true z ih =
        let y : length before ≡ i = (let x : some (length before) ≡ some i = sym (fault_here (length before) (total_of before) k d ls z) ∙ e in cc) in
        record {
          front = v;
          own = w;
          rest = t;
          parts = refl;
          before = before;
          line = rule k d;
          after = ls;
          whole = whole;
          spelled = a;
          itself = s;
          fits = h;
          out = λ o. clash z (limits_last before k d o);
          place = ap (λ (j : ℕ). start_of j 0 (v ++ (w ++ t))) (sym y) ∙ start_after a (w ++ t);
        }
    by_test false z ih =
        let one : length before + 1 ≡ length (before ++ (rule k d ∷ [])) = omega (arith, length-append before (rule k d ∷ [])) in
        let two : total_of before + length (postfix d) ≡ total_of (before ++ (rule k d ∷ [])) = sym (total_more before k d) in
        let r = ih (one_more a s) (all_as (sym (append_assoc v w t)) (sym (append_assoc before (rule k d ∷ []) ls)) whole) (limits_more before k d h z)
        (sym (ap (λ (x : ℕ). fault x (total_of (before ++ (rule k d ∷ []))) ls) one) ∙ sym (ap (λ (x : ℕ). fault (length before + 1) x ls) two)
        ∙ sym (fault_on_lem (length before) (total_of before) k d ls z) ∙ e) in
        subst (λ (x : Text). FirstOut x (start_of i 0 x)) (append_assoc v w t) r

none_in_limits : InLimits []
unfolding total
none_in_limits = record { few = omega arith; kinds_fit = tt; small = omega arith }

refused_out : (text : Text) (p : ℕ) → book_bytes text ≡ refuses (Range p) → OutOfRange text p
unfolding total
refused_out text p e = by_way (answer_way text) e
  where
    by_way : {x : Outcome (List ℕ)} → Way text x → x ≡ refuses (Range p) → OutOfRange text p
    by_way (mistyped q r) d = absurd (let z : ◌≡◌ {A = ℕ} 0 1 = cc in omega arith)
    by_way (the_rules l ls r f) d = absurd (let z : ◌≡◌ {A = ℕ} 0 1 = cc in omega arith)
    by_way (no_rule_lem r) d = let z : 0 ≡ p = cc in subst (OutOfRange text) z (none_at_all (fore_none (fore_of ((the_typing text []).0 r))))
    by_way (too_much_lem l ls i r f) d =
        let z : start_of i 0 text ≡ p = cc in
        let a = (the_typing text (l ∷ ls)).0 r in
        subst (OutOfRange text) z (at_line (found_out [] [] i (fore_of a) no_line a none_in_limits f))

pub range_exact : (text : Text) (p : ℕ) → (book_bytes text ≡ refuses (Range p)) ↔ OutOfRange text p
range_exact text p = (refused_out text p, out_refused text p)
