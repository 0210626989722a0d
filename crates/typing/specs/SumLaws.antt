-- One law a return of adding a line, of reading all lines and of finishing; and the loops of line_start and copy.
-- A line in range adds its bytes to the book; after one that is not, only where it stands is kept.
use Prim.Native.Nat.{ℕ, zero, suc, ◌+◌, ◌*◌, ◌<◌, ◌≤◌}
use native.Mathlib.Omega.{arith}
use Rattle.std.specs.Prelude.{◌≡◌, refl, Bool, true, false, ◌||◌, ltb, get_or, take, Result, Ok, Err}
use Rattle.std.specs.Result.{MatchResult, IsErrAnd}
use Rattle.std.proofs.Math.Path.{sym, ap}
use Rattle.std.proofs.Common.{subst, ◌∙◌, length-append, length-take-le, drop-drop, lt-ltb, le-ltb, eq-eqb, ne_eqb}
use Rattle.std.proofs.Math.Option.Option.{some}
use mathlib.Core.List.{List, [], ◌∷◌, ◌++◌, map, append_assoc, append-nil}
use Rattle.std.proofs.Math.ListN.{length, drop}
use Rattle.std.proofs.lemmas.List.{length-map}
use Rattle.number.specs.declared.Refusal.{Refusal}
use Rattle.number.specs.declared.Refusal.TheVariants.{Range, Room, Typed}
use Rattle.number.specs.Limits.{first_version, rules, kinds, nodes, typed_area}
use Rattle.number.specs.Refused.{Outcome, row_of}
use Rattle.number.specs.Refused.Outcome.{gives, refuses}
use Rattle.number.specs.Lists.{Writes, written, writes_then, take_written, drop_one}
use Rattle.number.specs.Numbers.{write_number}
use Rattle.book.specs.declared.Node.{Node}
use Rattle.book.specs.declared.Node.TheVariants.{Empty, Cat, Alt, Star}
use Rattle.book.specs.Book.{total, write_nodes, write_rule, write_rules, write_book}
use Rattle.typed.specs.Sets.{Span, spans}
use Rattle.typed.specs.Sets.Span.{span}
use Rattle.typed.specs.Exp.{Exp, joined, ranges, postfix}
use Rattle.typed.specs.Exp.Exp.{byte, dot, set, empty, cat, alt, star, plus, maybe}
use Rattle.typed.specs.Lines.{Line}
use Rattle.typed.specs.Lines.Line.{rule}
use Rattle.typed.specs.Scan.Reading.{typed}
use Rattle.typed.specs.LineReader.{read_lines, at_first}
use Rattle.typed.specs.LineReader.Place.{starting}
use Rattle.typed.specs.LineReader.Whole.{whole}
use Rattle.typed.proofs.LineLaws.{the_typing}
use Rattle.typed.specs.PostfixLaws.{Fits}
use Rattle.typed.specs.Calls.{rule_of, book_of, out_of, fault, start_of, book_bytes, put_book}
use Rattle.typed.specs.CallLaws.{AllFit, all_fit, in_of}
use Rattle.typed.specs.CallLaws.AllFit.{more_fit}
use Rattle.typed.proofs.RangeLaws.{total_of, total_more, limits_more, limits_last, limits_none, out_of_lem}
use Rattle.typed.specs.Classes.{Rising}
use Rattle.typed.specs.ClassLaws.{rises}
use Rattle.typed.specs.AnswerLaws.{when_wrong, when_none, when_out, when_right}
use Rattle.laid.specs.Laid.{pack, Capped, Lays}
use Rattle.laid.specs.Laid.Capped.{fits, over}
use Rattle.laid.specs.Laid.Lays.{lies, lost}
use Rattle.laid.specs.Bytes.{cells_bytes}
use Rattle.laid.specs.LaidLaws.{lays_capped}
use Rattle.laid.specs.ByteLaws.{width_most, cells_most, writes_same, AllTypable, nodes_bytes}
use Rattle.expression.specs.GoesLaws.{no_both}
use Rattle.typing.specs.declared.Sum.{Sum}
use Rattle.typing.specs.declared.Fault.{Fault}
use Rattle.typing.specs.Promises.{Types, Given}
use Rattle.typing.specs.Passes.{Passes, LineReads}
use Rattle.typing.specs.Passes.LineReads.{line_read, line_wrong}
use Rattle.typing.specs.PassLaws.{passes_none, passes_then, reads_all, reads_text, reads_wrong}
use Rattle.typing.specs.Sums.{FaultAfter, Rules, Small, Summed, Roomy, AddsLine, RulesReads, Finishes, LeftAfter}
use Rattle.typing.specs.Sums.LeftAfter.{newline, no_newline}
use Rattle.typing.specs.Sums.Summed.{in_range, out_of_range}
use Rattle.typing.specs.Sums.RulesReads.{all_read, wrong_read}

-- ---- out of range, as the code tests it

pub out_rules : (i t k m : ℕ) → rules ≤ i → true ≡ out_of i t k m
unfolding out_of
out_rules i t k m h = rw (lt-ltb rules (i + 1) (omega arith)) refl

pub out_kind : (i t k m : ℕ) → i < rules → kinds < k → true ≡ out_of i t k m
unfolding out_of
out_kind i t k m h z = rw (le-ltb rules (i + 1) (omega arith), lt-ltb kinds k z) refl

pub out_nodes : (i t k m : ℕ) (b : Bool) → i < rules → k ≤ kinds → b ≡ ltb nodes (t + m) → b ≡ out_of i t k m
unfolding out_of
out_nodes i t k m b h z e = rw (le-ltb rules (i + 1) (omega arith), le-ltb kinds k z) e

-- the same of a kind and a count that stopped one past their limits
out_capped : (i t kind k count m : ℕ) → Capped kinds kind k → Capped nodes count m → out_of i t kind count ≡ out_of i t k m
unfolding out_of
out_capped i t kind k count m (fits a) (fits b) = refl
out_capped i t kind k count m (fits a) (over b) =
    rw (lt-ltb nodes (t + (nodes + 1)) (omega arith), lt-ltb nodes (t + m) (omega arith)) refl
out_capped i t kind k count m (over a) c = rw (lt-ltb kinds (kinds + 1) (omega arith), lt-ltb kinds k a) (ignored (ltb rules (i + 1)) (ltb nodes (t + count)) (ltb nodes (t + m)))
  where
    ignored : (x y z : Bool) → x || (true || y) ≡ x || (true || z)
    ignored true y z = refl
    ignored false y z = refl

-- ---- a rule's bytes

typable_both : (ms ns : List Node) → AllTypable ms → AllTypable ns → AllTypable (ms ++ ns)
typable_both [] ns f g = g
typable_both (m ∷ ms) ns f g = (f.0, typable_both ms ns f.1 g)

joined_typable : (b : ℕ) (ss : List Span) → Rising b ss → AllTypable (joined ss)
unfolding joined
joined_typable b [] f = tt
joined_typable b (span lo hi ∷ more) f = ((omega (arith, f.1, f.2), omega (arith, f.2)), (tt, joined_typable (hi + 2) more f.3))

ranges_typable : (b : ℕ) (ss : List Span) → Rising b ss → AllTypable (ranges ss)
unfolding ranges
ranges_typable b [] f = tt
ranges_typable b (span lo hi ∷ more) f = ((omega (arith, f.1, f.2), omega (arith, f.2)), joined_typable (hi + 2) more f.3)

postfix_typable : (e : Exp) → Fits e → AllTypable (postfix e)
unfolding postfix
postfix_typable (byte c) f = ((f, f), tt)
postfix_typable dot f = ((omega arith, omega arith), tt)
postfix_typable (set s) f = ranges_typable 0 (spans s) (rises s)
postfix_typable empty f = (tt, tt)
postfix_typable (cat a b) f =
    typable_both (postfix a) (postfix b ++ (Cat ∷ [])) (postfix_typable a f.0) (typable_both (postfix b) (Cat ∷ []) (postfix_typable b f.1) (tt, tt))
postfix_typable (alt a b) f =
    typable_both (postfix a) (postfix b ++ (Alt ∷ [])) (postfix_typable a f.0) (typable_both (postfix b) (Alt ∷ []) (postfix_typable b f.1) (tt, tt))
postfix_typable (star a) f = typable_both (postfix a) (Star ∷ []) (postfix_typable a f) (tt, tt)
postfix_typable (plus a) f =
    typable_both (postfix a) (postfix a ++ (Star ∷ Cat ∷ [])) (postfix_typable a f) (typable_both (postfix a) (Star ∷ Cat ∷ []) (postfix_typable a f) (tt, (tt, tt)))
postfix_typable (maybe a) f = typable_both (postfix a) (Empty ∷ Alt ∷ []) (postfix_typable a f) (tt, (tt, tt))

abbrev rule_bytes : ℕ → List Node → List ℕ
rule_bytes k ns = write_number k ++ (write_number (length ns) ++ write_nodes ns)

rules_more : (ls : List Line) (k : ℕ) (e : Exp) → write_rules (map rule_of (ls ++ (rule k e ∷ []))) ≡ write_rules (map rule_of ls) ++ rule_bytes k (postfix e)
unfolding write_rules write_rule
rules_more [] k e = append-nil (rule_bytes k (postfix e))
rules_more (rule j d ∷ ls) k e =
    ap (rule_bytes j (postfix d) ++◌) (rules_more ls k e) ∙ sym (append_assoc (rule_bytes j (postfix d)) (write_rules (map rule_of ls)) (rule_bytes k (postfix e)))

-- ---- a line is added

-- a fault stays the first
fault_stays : (i : ℕ) (ls : List Line) (l : Line) → FaultAfter i ls → FaultAfter i (ls ++ (l ∷ []))
fault_stays i ls l a =
    record {
      before = a.before;
      line = a.line;
      later = a.later ++ (l ∷ []);
      parts = ap (λ (x : List Line). x ++ (l ∷ [])) a.parts ∙ append_assoc a.before (a.line ∷ a.later) (l ∷ []);
      fits = a.fits;
      out = a.out;
      count = a.count;
    }

add_faulty_sums : (f : Fault) (book : List ℕ) (ls : List Line) (l : Line) → Summed ls (Err f) book → Summed (ls ++ (l ∷ [])) (Err f) book
add_faulty_sums f book ls l (out_of_range a) = out_of_range {f = f} (fault_stays f.line ls l a)

pub add_faulty : (f : Fault) (kind count : ℕ) (cells book : List ℕ) → Roomy (Err f) book → AddsLine (Err f) kind count cells book (Err f) book
add_faulty f kind count cells book r = record { roomy = r; sums = λ ls k e a c l _. add_faulty_sums f book ls (rule k e) a }

pub roomy_of : {r r' : Rules} {book : List ℕ} → r ≡ r' → Roomy r book → Roomy r' book
roomy_of {book = book} e h = subst (λ (r : Rules). Roomy r book) e h

-- counts that are within their limits are what they count
kind_is : (kind k : ℕ) → kind ≤ kinds → Capped kinds kind k → kind ≡ k
kind_is kind k h (fits c) = refl
kind_is kind k h (over c) = absurd (omega arith)

laid_is : (cells : List ℕ) (count : ℕ) (ns : List Node) → count ≤ nodes → Lays cells count ns → (length ns ≡ count) × (take count cells ≡ map pack ns)
laid_is cells count ns h (lies l k t) = (k, t)
laid_is cells count ns h (lost l) = absurd (omega arith)

module _ (s : Sum) (kind count : ℕ) (cells book : List ℕ) (room : Roomy (Ok s) book) where
  counts : Small s
  counts = room.counts

  -- the test of the code is that of the lines
  tested : (ls : List Line) (k : ℕ) (e : Exp) → s.rules ≡ length ls → s.nodes ≡ total_of ls → Capped kinds kind k → Lays cells count (postfix e)
      → out_of s.rules s.nodes kind count ≡ out_of (length ls) (total_of ls) k (length (postfix e))
  tested ls k e r n c l =
      out_capped s.rules s.nodes kind k count (length (postfix e)) c (lays_capped l)
      ∙ ap (λ (i : ℕ). out_of i s.nodes k (length (postfix e))) r ∙ ap (λ (t : ℕ). out_of (length ls) t k (length (postfix e))) n

  out_sums : (f : Fault) (ls : List Line) (k : ℕ) (e : Exp) → f.line ≡ s.rules → out_of s.rules s.nodes kind count ≡ true
      → Summed ls (Ok s) book → Capped kinds kind k → Lays cells count (postfix e) → Summed (ls ++ (rule k e ∷ [])) (Err f) book
  out_sums f ls k e g z (in_range i r n b) c l =
      out_of_range {f = f} (record {
        before = ls;
        line = rule k e;
        later = [];
        parts = refl;
        fits = i;
        out = λ y. no_both (sym (sym (tested ls k e r n c l) ∙ z) ∙ limits_last ls k e y);
        count = g ∙ r;
      })

  pub add_out : (f : Fault) → f.line ≡ s.rules → out_of s.rules s.nodes kind count ≡ true → AddsLine (Ok s) kind count cells book (Err f) book
  add_out f g z = record { roomy = record { counts = tt; book_is = room.book_is }; sums = λ ls k x a c l _. out_sums f ls k x g z a c l }

  module _ (b₁ b₂ book' : List ℕ) (at₂ at₃ end' : ℕ) (z : out_of s.rules s.nodes kind count ≡ false)
      (w₁ : Writes (write_number kind) book b₁ s.end at₂) (w₂ : Writes (write_number count) b₁ b₂ at₂ at₃)
      (w₃ : Writes (cells_bytes (take count cells)) b₂ book' at₃ end') (long : length cells ≡ nodes) where
    within_all : (s.rules + 1 ≤ rules) × (kind ≤ kinds) × (s.nodes + count ≤ nodes)
    within_all = in_of s.rules s.nodes kind count z

    abbrev bytes : List ℕ
    bytes = write_number kind ++ (write_number count ++ cells_bytes (take count cells))

    short_bytes : length bytes ≤ 6 + count * 7
    short_bytes =
        let i = within_all in
        omega (
          arith,
          length-append (write_number kind) (write_number count ++ cells_bytes (take count cells)),
          length-append (write_number count) (cells_bytes (take count cells)),
          width_most kind,
          width_most count,
          cells_most (take count cells),
          length-take-le count cells (omega (arith, i.2)),
        )

    start_inside : s.end + (6 + count * 7) ≤ length book
    start_inside = let i = within_all in omega (arith, counts.short, room.book_is, i.0, i.2)

    all_written : Writes bytes book book' s.end end'
    all_written =
        writes_then (omega (arith, start_inside)) w₁
        (writes_then (omega (arith, start_inside, w₁.place, width_most kind, writes_same w₁ (omega (arith, start_inside, width_most kind)))) w₂ w₃)

    in_sums : (s' : Sum) (ls : List Line) (k : ℕ) (e : Exp) → s'.rules ≡ s.rules + 1 → s'.nodes ≡ s.nodes + count → s'.end ≡ end'
        → Summed ls (Ok s) book → Capped kinds kind k → Lays cells count (postfix e) → Fits e → Summed (ls ++ (rule k e ∷ [])) (Ok s') book'
    in_sums s' ls k e g h d (in_range i r n b) c l t =
        let v = within_all in
        let m = laid_is cells count (postfix e) (omega (arith, v.2)) l in
        let same : bytes ≡ rule_bytes k (postfix e) =
        ap (λ (x : ℕ). write_number x ++ (write_number count ++ cells_bytes (take count cells))) (kind_is kind k v.1 c)
        ∙ ap (λ (x : ℕ). write_number k ++ (write_number x ++ cells_bytes (take count cells))) (sym m.0)
        ∙ ap (λ (x : List ℕ). write_number k ++ (write_number (length (postfix e)) ++ x)) (ap cells_bytes m.1 ∙ nodes_bytes (postfix e) (postfix_typable e t)) in
        in_range {s = s'} (limits_more ls k e i (sym (tested ls k e r n c l) ∙ z))
        (omega (arith, g, r, length-append ls (rule k e ∷ []))) (omega (arith, h, n, m.0, total_more ls k e))
        (ap (λ (x : ℕ). take x book') (d ∙ all_written.place) ∙ ap (take (s.end + length bytes)) all_written.out
        ∙ take_written book s.end bytes (omega (arith, start_inside)) ∙ ap (λ (x : List ℕ). x ++ bytes) b
        ∙ ap (write_rules (map rule_of ls) ++◌) same ∙ sym (rules_more ls k e))

    pub add_in : (s' : Sum) → s' ≡ record { rules = s.rules + 1; nodes = s.nodes + count; end = end' } → AddsLine (Ok s) kind count cells book (Ok s') book'
    add_in s' x =
        let i = within_all in
        let g = ap (λ (y : Sum). y.rules) x in
        let h = ap (λ (y : Sum). y.nodes) x in
        let d = ap (λ (y : Sum). y.end) x in
        record {
          roomy = record {
            counts = record {
              few = omega (arith, g, i.0);
              small = omega (arith, h, i.2);
              short = omega (arith, g, h, d, counts.short, all_written.place, short_bytes);
            };
            book_is = writes_same all_written (omega (arith, start_inside, short_bytes)) ∙ room.book_is;
          };
          sums = λ ls k e a c l t. in_sums s' ls k e g h d a c l t;
        }

-- ---- all lines

pub record RulesSoFar (text : List ℕ) (p : ℕ) (s : Rules) (cells book : List ℕ) : Type 0 where
  pub lines : List Line
  pub passes : Passes text 0 p at_first (whole lines starting)
  pub summed : Summed lines s book
  pub roomy : Roomy s book
  pub cells_are : length cells ≡ nodes

abbrev no_rules : Sum
no_rules = record { rules = 0; nodes = 0; end = 0 }

none_summed : (book : List ℕ) → Summed [] (Ok no_rules) book
unfolding total write_rules
none_summed book = in_range {s = no_rules} (record { few = omega arith; kinds_fit = tt; small = omega arith }) refl refl refl

pub rules_first : (text cells book : List ℕ) → length cells ≡ nodes → length book ≡ typed_area → RulesSoFar text 0 (Ok no_rules) cells book
rules_first text cells book h k =
    record {
      lines = [];
      passes = passes_none text 0 at_first (omega arith);
      summed = none_summed book;
      roomy = record { counts = record { few = omega arith; small = omega arith; short = omega arith }; book_is = k };
      cells_are = h;
    }

last_fits : (ls : List Line) (k : ℕ) (e : Exp) → AllFit (ls ++ (rule k e ∷ [])) → Fits e
last_fits [] k e (more_fit f a) = f
last_fits (rule j d ∷ ls) k e (more_fit f a) = last_fits ls k e a

module _ (text : List ℕ) (p : ℕ) (s : Rules) (cells book : List ℕ) (a : RulesSoFar text p s cells book) where
  pub line_kept : (kind count q : ℕ) (cells' : List ℕ) → LineReads text p cells (Ok (record { kind = kind; count = count; next = q })) cells'
      → (length cells' ≡ nodes) × (count ≤ nodes + 1) × (p < q) × (q ≤ length text)
  line_kept kind count q cells' (line_read k e same small c l h m f) = (same ∙ a.cells_are, small, h, m)

  pub rules_next : (kind count q : ℕ) (cells' : List ℕ) (s' : Rules) (book' : List ℕ) → LineReads text p cells (Ok (record { kind = kind; count = count; next = q })) cells'
      → AddsLine s kind count cells' book s' book' → RulesSoFar text q s' cells' book'
  rules_next kind count q cells' s' book' (line_read k e same small c l h m f) d =
      let ls = a.lines ++ (rule k e ∷ []) in
      let g = passes_then a.passes (f a.lines) in
      let t = last_fits a.lines k e (all_fit ((the_typing (take q text) ls).0 (reads_all text q ls g))) in
      record {
        lines = ls;
        passes = g;
        summed = d.sums a.lines k e a.summed c l t;
        roomy = d.roomy;
        cells_are = same ∙ a.cells_are;
      }

  pub rules_wrong : (q : ℕ) (cells' : List ℕ) → LineReads text p cells (Err (record { at = q })) cells' → RulesReads text book (Err (record { at = q }))
  rules_wrong q cells' (line_wrong same h m f) = wrong_read a.roomy.book_is (reads_wrong text p q a.lines a.passes (f a.lines))

  pub rules_all : length text ≤ p → RulesReads text book (Ok s)
  rules_all h = all_read a.lines (reads_text text p a.lines h a.passes) a.summed a.roomy

-- ---- the end

-- the call: too small an area is refused, and else it is as above
pub types_room : (text out : List ℕ) → length out < typed_area → Types text out (Err Room) out
types_room text out h = let z = lt-ltb (length out) typed_area h in record { answer = rw z refl; row = rw z refl; output = rw z refl }

pub types_given : (text out : List ℕ) (r : Result ℕ Refusal) (out' : List ℕ) → typed_area ≤ length out → Given text out r out' → Types text out r out'
types_given text out r out' h a =
    let z = le-ltb (length out) typed_area h in
    record { answer = rw z a.answer; row = rw z (ap row_of a.answer); output = rw z a.output }

given_refused : (text out : List ℕ) (r : Refusal) → book_bytes text ≡ refuses r → Given text out (Err r) out
given_refused text out r e = record { answer = sym (ap (λ (x : Outcome (List ℕ)). (put_book out x).answer) e); output = sym (ap (λ (x : Outcome (List ℕ)). (put_book out x).out) e) }

pub given_wrong : (text book out : List ℕ) (p : ℕ) → RulesReads text book (Err (record { at = p })) → Given text out (Err (Typed p)) out
given_wrong text book out p (wrong_read h e) = given_refused text out (Typed p) (when_wrong text p e)

pub given_all : (text book out : List ℕ) (s : Rules) (r : Result ℕ Refusal) (out' : List ℕ) → RulesReads text book (Ok s) → Finishes text s book out r out' → Given text out r out'
given_all text book out s r out' (all_read ls e a h) f = f.gives ls e a

pub all_roomy : (text book : List ℕ) (s : Rules) → RulesReads text book (Ok s) → Roomy s book
all_roomy text book s (all_read ls e a h) = h

module _ (text : List ℕ) (f : Fault) (book out : List ℕ) (at : ℕ) (e : at ≡ start_of f.line 0 text) where
  out_given : (ls : List Line) → read_lines text ≡ typed ls → Summed ls (Err f) book → Given text out (Err (Range at)) out
  out_given ls d (out_of_range a) =
      given_refused text out (Range at) (when_out text ls f.line d (ap (fault 0 0) a.parts ∙ out_of_lem a.before a.line a.later a.fits a.out ∙ ap some (sym a.count))
      ∙ ap (λ (p : ℕ). refuses (Range p)) (sym e))

  pub finish_out : Finishes text (Err f) book out (Err (Range at)) out
  finish_out = record { same = refl; gives = λ ls d a. out_given ls d a }

-- what map_err made of the rules: they were whole where its answer is, and else their fault was told
pub rules_ok : (rules : Rules) {y : Result Sum Refusal} {sum : Sum} (Q : Fault → Refusal → Type 0)
    → MatchResult rules (λ x. y ≡ Ok x) (λ f. IsErrAnd y (Q f)) → y ≡ Ok sum → rules ≡ Ok sum
rules_ok (Ok x) Q m e = cc
rules_ok (Err f) Q m e = absurd (rw e at m)

pub rules_err : (text book out : List ℕ) (rules : Rules) {y : Result Sum Refusal} {q : Refusal} (Q : Fault → Refusal → Type 0)
    → MatchResult rules (λ x. y ≡ Ok x) (λ f. IsErrAnd y (Q f)) → y ≡ Err q
    → ((f : Fault) (q : Refusal) → Q f q → q ≡ Range (start_of f.line 0 text)) → Finishes text rules book out (Err q) out
rules_err text book out (Ok x) Q m e h = absurd (let z : ◌≡◌ {A = ℕ} 0 1 = cc in omega arith)
rules_err text book out (Err f) {q = q} Q m e h =
    rw (h f q (rw e at m)) (finish_out text f book out (start_of f.line 0 text) refl)

module _ (text : List ℕ) (s : Sum) (book out : List ℕ) where
  none_given : (ls : List Line) → s.rules ≡ 0 → read_lines text ≡ typed ls → Summed ls (Ok s) book → Given text out (Err (Range 0)) out
  none_given [] z d (in_range i r n b) = given_refused text out (Range 0) (when_none text d)
  none_given (l ∷ ls) z d (in_range i r n b) = absurd (omega arith)

  pub finish_none : s.rules ≡ 0 → Finishes text (Ok s) book out (Err (Range 0)) out
  finish_none z = record { same = refl; gives = λ ls d a. none_given ls z d a }

  module _ (o₁ o₂ out' : List ℕ) (at₁ at₂ end : ℕ) (n : s.rules ≡ 0 → ⊥) (room : Roomy (Ok s) book) (long : typed_area ≤ length out)
      (w₁ : Writes (write_number first_version) out o₁ 0 at₁) (w₂ : Writes (write_number s.rules) o₁ o₂ at₁ at₂) (w₃ : Writes (take s.end book) o₂ out' at₂ end) where
    counted : Small s
    counted = room.counts

    abbrev whole_book : List ℕ
    whole_book = write_number first_version ++ (write_number s.rules ++ take s.end book)

    book_written : Writes whole_book out out' 0 end
    book_written =
        writes_then (omega arith) w₁ (writes_then (omega (arith, w₁.place, width_most first_version, long, writes_same w₁ (omega (arith, width_most first_version, long)))) w₂ w₃)

    book_short : length whole_book ≤ length out
    book_short =
        omega (
          arith,
          length-append (write_number first_version) (write_number s.rules ++ take s.end book),
          length-append (write_number s.rules) (take s.end book),
          width_most first_version,
          width_most s.rules,
          length-take-le s.end book (omega (arith, counted.short, counted.few, counted.small, room.book_is)),
          counted.short,
          counted.few,
          counted.small,
          long,
        )

    given_book : (bytes : List ℕ) → whole_book ≡ bytes → book_bytes text ≡ gives bytes → Given text out (Ok end) out'
    unfolding written
    given_book bytes e d =
        record {
          answer = ap gives (let z : end ≡ length bytes = omega (arith, book_written.place, ap length e) in z) ∙ sym (ap (λ (x : Outcome (List ℕ)). (put_book out x).answer) d);
          output = book_written.out ∙ ap (written out 0) e ∙ ap (λ (n : ℕ). bytes ++ drop n out) (let z : 0 + length bytes ≡ length bytes = omega arith in z) ∙ sym (ap (λ (x : Outcome (List ℕ)). (put_book out x).out) d);
        }

    book_given : (ls : List Line) → read_lines text ≡ typed ls → Summed ls (Ok s) book → Given text out (Ok end) out'
    unfolding book_of write_book
    book_given [] d (in_range i r m b) = absurd (n r)
    book_given (l ∷ ls) d (in_range i r m b) =
        given_book (write_book (book_of (l ∷ ls)))
        (ap (λ (x : List ℕ). write_number first_version ++ (write_number s.rules ++ x)) b
        ∙ ap (λ (x : ℕ). write_number first_version ++ (write_number x ++ write_rules (map rule_of (l ∷ ls)))) (r ∙ sym (length-map (l ∷ ls) rule_of)))
        (when_right text l ls d (limits_none (l ∷ ls) i))

    pub finish_book : Finishes text (Ok s) book out (Ok end) out'
    finish_book = record { same = writes_same book_written (omega (arith, book_short)); gives = λ ls d a. book_given ls d a }

-- ---- where a line starts

drop_all : (p : ℕ) (t : List ℕ) → length t ≤ p → drop p t ≡ []
drop_all zero [] h = refl
drop_all zero (c ∷ t) h = absurd (omega arith)
drop_all (suc p) [] h = refl
drop_all (suc p) (c ∷ t) h = drop_all p t (omega arith)

pub record StartSoFar (text : List ℕ) (line left p : ℕ) : Type 0 where
  pub inside : p ≤ length text
  pub is : start_of left p (drop p text) ≡ start_of line 0 text

pub start_first : (text : List ℕ) (line : ℕ) → StartSoFar text line line 0
start_first text line = record { inside = omega arith; is = refl }

start_step : (left p c : ℕ) (t : List ℕ) → c ≡ 10 → start_of (suc left) p (c ∷ t) ≡ start_of left (p + 1) t
unfolding start_of
start_step left p c t e = rw (eq-eqb c 10 e, start_of) refl

start_stay : (left p c : ℕ) (t : List ℕ) → (c ≡ 10 → ⊥) → start_of (suc left) p (c ∷ t) ≡ start_of (suc left) (p + 1) t
unfolding start_of
start_stay left p c t n = rw (ne_eqb c 10 n, start_of) refl

module _ (text : List ℕ) (line left p : ℕ) (a : StartSoFar text line left p) where
  pub start_found : left ≡ 0 → p ≡ start_of line 0 text
  unfolding start_of
  start_found z = sym (ap (λ (l : ℕ). start_of l p (drop p text)) z) ∙ a.is

  pub start_ends : length text ≤ p → length text ≡ start_of line 0 text
  unfolding start_of
  start_ends h = (let z : length text ≡ p = omega (arith, a.inside) in z) ∙ by_left left (ap (start_of left p) (sym (drop_all p text h)) ∙ a.is)
    where
      by_left : (l : ℕ) → start_of l p [] ≡ start_of line 0 text → p ≡ start_of line 0 text
      by_left zero e = e
      by_left (suc l) e = e

  module _ (l : p < length text) (m : ℕ) (e : left ≡ suc m) where
    here : start_of (suc m) p (get_or text p 0 ∷ drop (p + 1) text) ≡ start_of line 0 text
    here = sym (ap (λ (x : ℕ). start_of x p (drop p text)) e ∙ ap (start_of (suc m) p) (drop_one text p l)) ∙ a.is

    pub start_next : (r : ℕ) → LeftAfter left (get_or text p 0) r → StartSoFar text line r (p + 1)
    start_next r (newline z y) =
        let v : r ≡ m = omega arith in
        record {
          inside = omega arith;
          is = ap (λ (x : ℕ). start_of x (p + 1) (drop (p + 1) text)) v ∙ sym (start_step m p (get_or text p 0) (drop (p + 1) text) z) ∙ here;
        }
    start_next r (no_newline n y) =
        record {
          inside = omega arith;
          is = ap (λ (x : ℕ). start_of x (p + 1) (drop (p + 1) text)) (y ∙ e) ∙ sym (start_stay m p (get_or text p 0) (drop (p + 1) text) n) ∙ here;
        }

-- ---- copying

-- a copied part is a run of its bytes
pub copied : (part now s : List ℕ) (at k n : ℕ) → n ≡ length part → k ≡ n → now ≡ part → Writes part s (take at s ++ (now ++ drop k (drop at s))) at (at + n)
unfolding written
copied part now s at k n c e f =
    let g : k ≡ length part = e ∙ c in
    record {
      place = ap (at +◌) c;
      out = ap (λ (l : List ℕ). take at s ++ (l ++ drop k (drop at s))) f ∙ ap (λ (l : List ℕ). take at s ++ (part ++ l)) (drop-drop k at s ∙ ap (λ (n : ℕ). drop (at + n) s) g)
          ∙ sym (append_assoc (take at s) part (drop (at + length part) s));
    }
