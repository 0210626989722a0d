-- The sets hold exactly the bytes of their POSIX classes, and their ranges are the fewest.
-- Bytes up to 127 are tested one by one by the checker; above 127 neither side holds any.
use Rattle.std.specs.Prelude.{ℕ, zero, suc, ◌+◌, ◌≤◌, ◌<◌, ◌≡◌, refl, Bool, true, false, not, ◌&&◌, ◌||◌, List, [], ◌∷◌, ◌++◌, ◌↔◌, T, leb, eqb, length}
use Rattle.std.proofs.Common.{arith, sym, ap, ◌∙◌, inl, inr, leb-true, ne_eqb}
use Rattle.std.proofs.Math.Decide.{dec_lt}
use Rattle.std.proofs.Math.Option.{Option}
use Rattle.std.proofs.Math.Option.Option.{none, some}
use Rattle.std.proofs.lemmas.Bool.{lt-leb}
use Rattle.meaning.specs.Re.{Text}
use Rattle.meaning.specs.Tests.{clash, and_true, or_true, true_or, or_of_true}
use Rattle.book.specs.Book.{listed}
use Rattle.typed.specs.Sets.{Set, sets, named, Span, spans}
use Rattle.typed.specs.Sets.Set.{alnum, alpha, blank, cntrl, digit, graph, lower, print, punct, space, upper, xdigit}
use Rattle.typed.specs.Sets.Span.{span}
use Rattle.typed.specs.Exp.{Among}
use Rattle.typed.specs.Spells.{between, bare, hex}
use Rattle.number.specs.Quoted.{quoted}
use Rattle.typed.specs.TestLaws.{between_true, true_between, both_hold}
use Rattle.typed.specs.Classes.{held, holds, is_upper, is_lower, is_digit, is_punct, is_alpha, is_alnum, is_graph, is_print, ByteOf, said, Rising, Fewest, In, title}
use Rattle.typed.specs.Classes.In.{first, later}

true_false : (b : Bool) → (b ≡ true → ⊥) → b ≡ false
true_false true n = absurd (n refl)
true_false false n = refl

-- ---- above 127 nothing

or_none : {a b : Bool} → a ≡ false → b ≡ false → a || b ≡ false
or_none p q = rw (p, q) refl

far_between : (lo hi c : ℕ) → hi < c → between lo hi c ≡ false
far_between lo hi c h = true_false (between lo hi c) (λ e. omega (arith, (between_true lo hi c e).1))

far_held : (b : ℕ) (ss : List Span) (c : ℕ) → Rising b ss → 127 < c → held ss c ≡ false
unfolding held
far_held b [] c r h = refl
far_held b (span lo hi ∷ more) c r h = or_none (far_between lo hi c (omega (arith, r.2))) (far_held (hi + 2) more c r.3 h)

-- each set's ranges rise
pub rises : (s : Set) → Rising 0 (spans s)
unfolding spans
rises alnum = (omega arith, omega arith, omega arith, (omega arith, omega arith, omega arith, (omega arith, omega arith, omega arith, tt)))
rises alpha = (omega arith, omega arith, omega arith, (omega arith, omega arith, omega arith, tt))
rises blank = (omega arith, omega arith, omega arith, (omega arith, omega arith, omega arith, tt))
rises cntrl = (omega arith, omega arith, omega arith, (omega arith, omega arith, omega arith, tt))
rises digit = (omega arith, omega arith, omega arith, tt)
rises graph = (omega arith, omega arith, omega arith, tt)
rises lower = (omega arith, omega arith, omega arith, tt)
rises print = (omega arith, omega arith, omega arith, tt)
rises punct = (
  omega arith,
  omega arith,
  omega arith,
  (
    omega arith,
    omega arith,
    omega arith,
    (omega arith, omega arith, omega arith, (omega arith, omega arith, omega arith, tt)),
  ),
)
rises space = (omega arith, omega arith, omega arith, (omega arith, omega arith, omega arith, tt))
rises upper = (omega arith, omega arith, omega arith, tt)
rises xdigit = (omega arith, omega arith, omega arith, (omega arith, omega arith, omega arith, (omega arith, omega arith, omega arith, tt)))

pub far_holds : (s : Set) (c : ℕ) → 127 < c → holds s c ≡ false
unfolding holds
far_holds s c h = far_held 0 (spans s) c (rises s) h

-- the characters that are listed are up to 127
unfoldable low : Text → Bool
low [] = true
low (d ∷ t) = leb d 127 && low t

far_listed : (t : Text) (c : ℕ) → low t ≡ true → 127 < c → listed t c ≡ false
unfolding low
far_listed [] c k h = refl
far_listed (d ∷ t) c k h =
    let b = and_true (leb d 127) (low t) k in
    let l = leb-true d 127 b.0 in
    or_none (ne_eqb c d (λ e. omega arith)) (far_listed t c b.1 h)

far_upper : (c : ℕ) → 127 < c → is_upper c ≡ false
unfolding is_upper low quoted
far_upper c h = far_listed (quoted "ABCDEFGHIJKLMNOPQRSTUVWXYZ") c refl h

far_lower : (c : ℕ) → 127 < c → is_lower c ≡ false
unfolding is_lower low quoted
far_lower c h = far_listed (quoted "abcdefghijklmnopqrstuvwxyz") c refl h

far_digit : (c : ℕ) → 127 < c → is_digit c ≡ false
unfolding is_digit low quoted
far_digit c h = far_listed (quoted "0123456789") c refl h

far_punct : (c : ℕ) → 127 < c → is_punct c ≡ false
unfolding is_punct low quoted
far_punct c h = far_listed (quoted "!\"#$%&'()*+,-./:;<=>?@[\\]^_`{|}~") c refl h

far_alpha : (c : ℕ) → 127 < c → is_alpha c ≡ false
unfolding is_alpha
far_alpha c h = or_none (far_upper c h) (far_lower c h)

far_alnum : (c : ℕ) → 127 < c → is_alnum c ≡ false
unfolding is_alnum
far_alnum c h = or_none (far_alpha c h) (far_digit c h)

far_graph : (c : ℕ) → 127 < c → is_graph c ≡ false
unfolding is_graph
far_graph c h = or_none (far_alnum c h) (far_punct c h)

far_print : (c : ℕ) → 127 < c → is_print c ≡ false
unfolding is_print low quoted
far_print c h = or_none (far_graph c h) (far_listed (quoted " ") c refl h)

far_said : (s : Set) (c : ℕ) → 127 < c → said s c ≡ false
unfolding said low quoted
far_said upper c h = far_upper c h
far_said lower c h = far_lower c h
far_said digit c h = far_digit c h
far_said punct c h = far_punct c h
far_said alpha c h = far_alpha c h
far_said alnum c h = far_alnum c h
far_said graph c h = far_graph c h
far_said print c h = far_print c h
far_said cntrl c h = rw (lt-leb c 127 h) refl
far_said blank c h = far_listed (quoted "\t ") c refl h
far_said space c h = far_listed (quoted " \u{c}\n\r\t\u{b}") c refl h
far_said xdigit c h = far_listed (quoted "0123456789ABCDEFabcdef") c refl h

-- ---- up to 127 byte by byte

unfoldable same : Bool → Bool → Bool
same true b = b
same false b = not b

same_is : (a b : Bool) → T (same a b) → a ≡ b
unfolding same
same_is true true h = refl
same_is true false h = absurd h
same_is false true h = absurd h
same_is false false h = refl

unfoldable alike : (ℕ → Bool) → (ℕ → Bool) → ℕ → Bool
alike f g zero = true
alike f g (suc n) = same (f n) (g n) && alike f g n

agree : (f g : ℕ → Bool) (n : ℕ) → T (alike f g n) → (c : ℕ) → c < n → f c ≡ g c
unfolding alike
agree f g zero p c h = absurd (omega arith)
agree f g (suc n) p c h =
    let q = both_hold (same (f n) (g n)) (alike f g n) p in
    elim (dec_lt c n) [
      | yes l ↦ agree f g n q.1 c l
      | no m ↦ let e : c ≡ n = omega arith in ap f e ∙ same_is (f n) (g n) q.0 ∙ ap g (sym e)
    ]

-- two tests that agree up to 127 and hold of nothing above are one
everywhere : (f g : ℕ → Bool) → T (alike f g 128) → ((c : ℕ) → 127 < c → f c ≡ false) → ((c : ℕ) → 127 < c → g c ≡ false) → (c : ℕ) → f c ≡ g c
everywhere f g p far far' c = elim (dec_lt 127 c) [ yes h ↦ far c h ∙ sym (far' c h) | no n ↦ agree f g 128 p c (omega arith) ]

tested : (s : Set) → T (alike (holds s) (said s) 128)
unfolding alike same holds said is_upper is_lower is_digit is_punct is_alpha is_alnum is_graph is_print held quoted between spans
tested alnum = tt
tested alpha = tt
tested blank = tt
tested cntrl = tt
tested digit = tt
tested graph = tt
tested lower = tt
tested print = tt
tested punct = tt
tested space = tt
tested upper = tt
tested xdigit = tt

pub classes_said : (s : Set) (c : ℕ) → holds s c ≡ said s c
classes_said s = everywhere (holds s) (said s) (tested s) (far_holds s) (far_said s)

-- punctuation is what is left of the printed characters, and those are 33 to 126 in one run
punct_tested : T (alike (holds punct) (λ c. holds graph c && not (holds alnum c)) 128)
unfolding alike same holds held between spans
punct_tested = tt

pub punct_rest : (c : ℕ) → holds punct c ≡ holds graph c && not (holds alnum c)
punct_rest = everywhere (holds punct) (λ c. holds graph c && not (holds alnum c)) punct_tested (far_holds punct) (λ c h. rw (far_holds graph c h) refl)

pub names_read : (s : Set) → named s ≡ quoted (title s) ++ (62 ∷ [])
unfolding named quoted title
names_read alnum = refl
names_read alpha = refl
names_read blank = refl
names_read cntrl = refl
names_read digit = refl
names_read graph = refl
names_read lower = refl
names_read print = refl
names_read punct = refl
names_read space = refl
names_read upper = refl
names_read xdigit = refl

-- every set is listed, and has one to four ranges
pub all_there : (s : Set) → In s sets
all_there alnum = first
all_there alpha = later first
all_there blank = later (later first)
all_there cntrl = later (later (later first))
all_there digit = later (later (later (later first)))
all_there graph = later (later (later (later (later first))))
all_there lower = later (later (later (later (later (later first)))))
all_there print = later (later (later (later (later (later (later first))))))
all_there punct = later (later (later (later (later (later (later (later first)))))))
all_there space = later (later (later (later (later (later (later (later (later first))))))))
all_there upper = later (later (later (later (later (later (later (later (later (later first)))))))))
all_there xdigit = later (later (later (later (later (later (later (later (later (later (later first))))))))))

pub few_spans : (s : Set) → (1 ≤ length (spans s)) × (length (spans s) ≤ 4)
unfolding spans
few_spans alnum = (omega arith, omega arith)
few_spans alpha = (omega arith, omega arith)
few_spans blank = (omega arith, omega arith)
few_spans cntrl = (omega arith, omega arith)
few_spans digit = (omega arith, omega arith)
few_spans graph = (omega arith, omega arith)
few_spans lower = (omega arith, omega arith)
few_spans print = (omega arith, omega arith)
few_spans punct = (omega arith, omega arith)
few_spans space = (omega arith, omega arith)
few_spans upper = (omega arith, omega arith)
few_spans xdigit = (omega arith, omega arith)

-- ---- bytes that stand for themselves, and hex digits, as the classes have them

far_bare : (c : ℕ) → 127 < c → bare c ≡ false
unfolding bare
far_bare c h =
    or_none (far_between 65 90 c (omega arith))
    (or_none (far_between 97 122 c (omega arith)) (or_none (far_between 48 57 c (omega arith)) (far_between 32 32 c (omega arith))))

bare_tested : T (alike bare (λ c. holds alnum c || eqb c 32) 128)
unfolding alike same bare holds held between spans
bare_tested = tt

pub bare_held : (c : ℕ) → bare c ≡ (holds alnum c || eqb c 32)
bare_held =
    everywhere bare (λ c. holds alnum c || eqb c 32) bare_tested far_bare (λ c h. or_none (far_holds alnum c h) (ne_eqb c 32 (λ e. omega arith)))

unfoldable valued : Option ℕ → Bool
valued none = false
valued (some x) = true

far_hex : (c : ℕ) → 127 < c → valued (hex c) ≡ false
unfolding hex valued
far_hex c h =
    rw (far_between 48 57 c (omega arith), far_between 65 70 c (omega arith), far_between 97 102 c (omega arith)) refl

hex_tested : T (alike (λ c. valued (hex c)) (holds xdigit) 128)
unfolding alike same valued hex holds held between spans
hex_tested = tt

hex_valued : (c : ℕ) → valued (hex c) ≡ holds xdigit c
hex_valued = everywhere (λ c. valued (hex c)) (holds xdigit) hex_tested far_hex (far_holds xdigit)

value_of : (o : Option ℕ) → valued o ≡ true → (x : ℕ) × (o ≡ some x)
unfolding valued
value_of none h = absurd (clash h refl)
value_of (some x) h = (x, refl)

of_value : (o : Option ℕ) (x : ℕ) → o ≡ some x → valued o ≡ true
unfolding valued
of_value o x e = rw e refl

pub hex_held : (c : ℕ) → ((x : ℕ) × (hex c ≡ some x)) ↔ (holds xdigit c ≡ true)
hex_held c = (λ v. sym (hex_valued c) ∙ of_value (hex c) v.0 v.1, λ h. value_of (hex c) (hex_valued c ∙ h))

-- ---- a set's meaning

abbrev Bounds : ℕ → ℕ → ℕ → Type 0
Bounds lo hi c = (lo ≤ c) × (c ≤ hi)

pub among_held : (ss : List Span) (w : Text) → Among ss w ↔ ByteOf ss w
unfolding held
among_held [] w = (λ m. absurd m, λ b. absurd (clash b.within refl))
among_held (span lo hi ∷ more) w = (
  elim [
    | inl o ↦ record { byte = o.byte; only = o.only; within = true_or (held more o.byte) (true_between lo hi o.byte o.above o.below) }
    | inr m ↦ let b = (among_held more w).0 m in record { byte = b.byte; only = b.only; within = or_of_true (between lo hi b.byte) b.within }
  ],
  λ b. elim (or_true (between lo hi b.byte) (held more b.byte) b.within) [
    | inl h ↦ let k = between_true lo hi b.byte h in inl (record { byte = b.byte; only = b.only; above = k.0; below = k.1 })
    | inr h ↦ inr ((among_held more w).1 (record { byte = b.byte; only = b.only; within = h }))
  ],
)

-- ---- the fewest

-- some range holds c: that range, and the others
record Taken (ss : List Span) (c : ℕ) : Type 0 where
  lo : ℕ
  hi : ℕ
  others : List Span
  shorter : length ss ≡ suc (length others)
  below : lo ≤ c
  above : c ≤ hi
  its : (d : ℕ) → Bounds lo hi d → held ss d ≡ true
  theirs : (d : ℕ) → held others d ≡ true → held ss d ≡ true
  else : (d : ℕ) → held ss d ≡ true → (Bounds lo hi d → ⊥) → held others d ≡ true

taken : (ss : List Span) (c : ℕ) → held ss c ≡ true → Taken ss c
unfolding held
taken [] c h = absurd (clash h refl)
taken (span lo hi ∷ more) c h =
    elim (or_true (between lo hi c) (held more c) h) [
      | inl k ↦ let b = between_true lo hi c k in record {
        lo = lo;
        hi = hi;
        others = more;
        shorter = refl;
        below = b.0;
        above = b.1;
        its = λ d m. true_or (held more d) (true_between lo hi d m.0 m.1);
        theirs = λ d m. or_of_true (between lo hi d) m;
        else = λ d m n. elim (or_true (between lo hi d) (held more d) m) [ inl x ↦ absurd (n (between_true lo hi d x)) | inr y ↦ y ];
      }
      | inr k ↦ let t = taken more c k in record {
        lo = t.lo;
        hi = t.hi;
        others = span lo hi ∷ t.others;
        shorter = ap suc t.shorter;
        below = t.below;
        above = t.above;
        its = λ d m. or_of_true (between lo hi d) (t.its d m);
        theirs = λ d m. elim (or_true (between lo hi d) (held t.others d) m) [
          | inl x ↦ true_or (held more d) x
          | inr y ↦ or_of_true (between lo hi d) (t.theirs d y)
        ];
        else = λ d m n. elim (or_true (between lo hi d) (held more d) m) [
          | inl x ↦ true_or (held t.others d) x
          | inr y ↦ or_of_true (between lo hi d) (t.else d y n)
        ];
      }
    ]

-- ranges that rise from b on hold nothing below b
none_before : (b : ℕ) (ss : List Span) (c : ℕ) → Rising b ss → held ss c ≡ true → b ≤ c
unfolding held
none_before b [] c r h = absurd (clash h refl)
none_before b (span lo hi ∷ more) c r h =
    elim (or_true (between lo hi c) (held more c) h) [
      | inl k ↦ omega (arith, r.0, (between_true lo hi c k).0)
      | inr k ↦ omega (arith, r.0, r.1, none_before (hi + 2) more c r.3 k)
    ]

-- from b on both hold the same bytes
abbrev Alike : ℕ → List Span → List Span → Type 0
Alike b ts ss = (c : ℕ) → b ≤ c → (held ts c ≡ true) ↔ (held ss c ≡ true)

least : (b : ℕ) (ss ts : List Span) → Rising b ss → Alike b ts ss → length ss ≤ length ts
unfolding held
least b [] ts r h = omega arith
least b (span lo hi ∷ more) ts r h =
    let t = taken ts lo ((h lo r.0).1 (true_or (held more lo) (true_between lo hi lo (omega arith) r.1))) in
    let gap : held (span lo hi ∷ more) (hi + 1) ≡ true → ⊥ =
    λ e. elim (or_true (between lo hi (hi + 1)) (held more (hi + 1)) e) [
      | inl k ↦ omega (arith, (between_true lo hi (hi + 1) k).1)
      | inr k ↦ omega (arith, none_before (hi + 2) more (hi + 1) r.3 k)
    ] in
    let ends : t.hi ≤ hi =
    elim (dec_lt hi t.hi) [
      | yes l ↦ absurd (gap ((h (hi + 1) (omega (arith, r.0, r.1))).0 (t.its (hi + 1) (omega (arith, t.below, r.1), omega arith))))
      | no n ↦ omega arith
    ] in
    let rest : Alike (hi + 2) t.others more = λ c l. (
      λ e. elim (or_true (between lo hi c) (held more c) ((h c (omega (arith, r.0, r.1))).0 (t.theirs c e))) [
        | inl k ↦ absurd (omega (arith, (between_true lo hi c k).1))
        | inr k ↦ k
      ],
      λ e. t.else c ((h c (omega (arith, r.0, r.1))).1 (or_of_true (between lo hi c) e)) (λ m. omega (arith, m.1)),
    ) in
    omega (arith, t.shorter, least (hi + 2) more t.others r.3 rest)

pub spans_fewest : (s : Set) → Fewest (spans s)
spans_fewest s ts h = least 0 (spans s) ts (rises s) (λ c l. h c)
