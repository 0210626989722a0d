-- The nodes of a typed expression leave one term, and it matches exactly what the typed form means.
-- `re` is that term; both are shown for an expression with anything behind it, so that a rule's nodes are the case of nothing.
use Rattle.std.specs.Prelude.{ℕ, ◌+◌, ◌-◌, ◌≤◌, ◌≡◌, refl, List, [], ◌∷◌, ◌++◌, ◌↔◌, ◌⊎◌, length}
use Rattle.std.proofs.Common.{arith, ap, ◌∙◌, append_assoc, inl, inr}
use Rattle.number.specs.Limits.{first_version, last_byte}
use Rattle.meaning.specs.Re.{Re, Text}
use Rattle.meaning.specs.Lang.{Same}
use Rattle.meaning.specs.LangLaws.{then_same, many_same}
use Rattle.meaning.specs.Means.{Matches}
use Rattle.book.specs.declared.Node.{Node}
use Rattle.book.specs.declared.Node.TheVariants.{Empty, Cat, Alt, Star}
use Rattle.book.specs.Book.{allowed}
use Rattle.book.specs.Valid.{Leaves}
use Rattle.book.specs.Expression.{stacked, run_nodes}
use Rattle.book.specs.PostfixLaws.{three, leaves_as, at_count}
use Rattle.typed.specs.Sets.{Set, Span, spans}
use Rattle.typed.specs.Sets.Set.{alnum, alpha, blank, cntrl, digit, graph, lower, print, punct, space, upper, xdigit}
use Rattle.typed.specs.Sets.Span.{span}
use Rattle.typed.specs.Classes.{Rising}
use Rattle.typed.specs.ClassLaws.{rises}
use Rattle.typed.specs.Exp.{Exp, Among, Means, joined, ranges, postfix}
use Rattle.typed.specs.Exp.Exp.{byte, dot, set, empty, cat, alt, star, plus, maybe}

unfoldable pub alts : Re → List Span → Re
alts r [] = r
alts r (span lo hi ∷ more) = alts (Re.Alt r (Re.Range lo hi)) more

unfoldable pub of_spans : List Span → Re
of_spans [] = Re.Nothing
of_spans (span lo hi ∷ more) = alts (Re.Range lo hi) more

-- the term of a typed expression
unfoldable pub re : Exp → Re
re (byte c) = Re.Range c c
re dot = Re.Range 0 last_byte
re (set s) = of_spans (spans s)
re empty = Re.Empty
re (cat a b) = Re.Cat (re a) (re b)
re (alt a b) = Re.Alt (re a) (re b)
re (star a) = Re.Star (re a)
re (plus a) = Re.Cat (re a) (Re.Star (re a))
re (maybe a) = Re.Alt (re a) Re.Empty

abbrev SpanFits : Span → Type 0
SpanFits (span lo hi) = (lo ≤ hi) × (hi ≤ last_byte)

abbrev SpansFit : List Span → Type 0
SpansFit [] = Unit
SpansFit (s ∷ more) = SpanFits s × SpansFit more

-- some ranges, each within bounds
abbrev RangesFit : List Span → Type 0
RangesFit [] = ⊥
RangesFit (s ∷ more) = SpanFits s × SpansFit more

rising_fit : (b : ℕ) (ss : List Span) → Rising b ss → SpansFit ss
rising_fit b [] r = tt
rising_fit b (span lo hi ∷ more) r = ((r.1, omega (arith, r.2)), rising_fit (hi + 2) more r.3)

some_fit : (ss : List Span) → 1 ≤ length ss → SpansFit ss → RangesFit ss
some_fit [] h f = absurd (omega arith)
some_fit (s ∷ more) h f = f

some_spans : (s : Set) → 1 ≤ length (spans s)
unfolding spans
some_spans alnum = omega arith
some_spans alpha = omega arith
some_spans blank = omega arith
some_spans cntrl = omega arith
some_spans digit = omega arith
some_spans graph = omega arith
some_spans lower = omega arith
some_spans print = omega arith
some_spans punct = omega arith
some_spans space = omega arith
some_spans upper = omega arith
some_spans xdigit = omega arith

sets_fit : (s : Set) → RangesFit (spans s)
sets_fit s = some_fit (spans s) (some_spans s) (rising_fit 0 (spans s) (rises s))

joined_run : (more : List Span) (r : Re) (ns : List Node) (stack : List Re) → run_nodes (joined more ++ ns) (r ∷ stack) ≡ run_nodes ns (alts r more ∷ stack)
unfolding joined run_nodes stacked alts
joined_run [] r ns stack = refl
joined_run (span lo hi ∷ more) r ns stack = joined_run more (Re.Alt r (Re.Range lo hi)) ns stack

ranges_run : (ss : List Span) (ns : List Node) (stack : List Re) → RangesFit ss → run_nodes (ranges ss ++ ns) stack ≡ run_nodes ns (of_spans ss ∷ stack)
unfolding ranges run_nodes stacked of_spans
ranges_run [] ns stack f = absurd f
ranges_run (span lo hi ∷ more) ns stack f = joined_run more (Re.Range lo hi) ns stack

pub postfix_run : (e : Exp) (ns : List Node) (stack : List Re) → run_nodes (postfix e ++ ns) stack ≡ run_nodes ns (re e ∷ stack)
unfolding postfix run_nodes stacked re
postfix_run (byte c) ns stack = refl
postfix_run dot ns stack = refl
postfix_run (set s) ns stack = ranges_run (spans s) ns stack (sets_fit s)
postfix_run empty ns stack = refl
postfix_run (cat a b) ns stack =
    ap (λ l. run_nodes l stack) (three (postfix a) (postfix b) (Cat ∷ []) ns)
    ∙ postfix_run a (postfix b ++ (Cat ∷ ns)) stack ∙ postfix_run b (Cat ∷ ns) (re a ∷ stack)
postfix_run (alt a b) ns stack =
    ap (λ l. run_nodes l stack) (three (postfix a) (postfix b) (Alt ∷ []) ns)
    ∙ postfix_run a (postfix b ++ (Alt ∷ ns)) stack ∙ postfix_run b (Alt ∷ ns) (re a ∷ stack)
postfix_run (star a) ns stack = ap (λ l. run_nodes l stack) (append_assoc (postfix a) (Star ∷ []) ns) ∙ postfix_run a (Star ∷ ns) stack
postfix_run (plus a) ns stack =
    ap (λ l. run_nodes l stack) (three (postfix a) (postfix a) (Star ∷ Cat ∷ []) ns)
    ∙ postfix_run a (postfix a ++ (Star ∷ Cat ∷ ns)) stack ∙ postfix_run a (Star ∷ Cat ∷ ns) (re a ∷ stack)
postfix_run (maybe a) ns stack = ap (λ l. run_nodes l stack) (append_assoc (postfix a) (Empty ∷ Alt ∷ []) ns) ∙ postfix_run a (Empty ∷ Alt ∷ ns) stack

-- what it means
either : {A B C D : Type 0} → A ↔ C → B ↔ D → (A ⊎ B) ↔ (C ⊎ D)
either f g = (elim [ inl a ↦ inl (f.0 a) | inr b ↦ inr (g.0 b) ], elim [ inl c ↦ inl (f.1 c) | inr d ↦ inr (g.1 d) ])

alts_mean : (more : List Span) (r : Re) (w : Text) → Matches (alts r more) w ↔ (Matches r w ⊎ Among more w)
unfolding alts
alts_mean [] r w = (λ m. inl m, elim [ inl m ↦ m | inr b ↦ absurd b ])
alts_mean (span lo hi ∷ more) r w =
    let h = alts_mean more (Re.Alt r (Re.Range lo hi)) w in (
      λ m. elim (h.0 m) [ inl a ↦ elim a [ inl x ↦ inl x | inr y ↦ inr (inl y) ] | inr b ↦ inr (inr b) ],
      elim [ inl x ↦ h.1 (inl (inl x)) | inr y ↦ elim y [ inl z ↦ h.1 (inl (inr z)) | inr b ↦ h.1 (inr b) ] ],
    )

spans_mean : (ss : List Span) (w : Text) → Among ss w ↔ Matches (of_spans ss) w
unfolding of_spans
spans_mean [] w = (λ m. m, λ m. m)
spans_mean (span lo hi ∷ more) w = let h = alts_mean more (Re.Range lo hi) w in (h.1, h.0)

pub re_means : (e : Exp) → Same (Means e) (Matches (re e))
unfolding re
re_means (byte c) w = (λ m. m, λ m. m)
re_means dot w = (λ m. m, λ m. m)
re_means (set s) w = spans_mean (spans s) w
re_means empty w = (λ m. m, λ m. m)
re_means (cat a b) w = then_same (re_means a) (re_means b) w
re_means (alt a b) w = either (re_means a w) (re_means b w)
re_means (star a) w = many_same (re_means a) w
re_means (plus a) w = then_same (re_means a) (many_same (re_means a)) w
re_means (maybe a) w = either (re_means a w) (λ m. m, λ m. m)

-- the nodes are within their fields, and find their terms
abbrev pub Fits : Exp → Type 0
Fits (byte c) = c ≤ last_byte
Fits dot = Unit
Fits (set s) = Unit
Fits empty = Unit
Fits (cat a b) = Fits a × Fits b
Fits (alt a b) = Fits a × Fits b
Fits (star a) = Fits a
Fits (plus a) = Fits a
Fits (maybe a) = Fits a

joined_leave : (more : List Span) (ns : List Node) (t : ℕ) → SpansFit more → Leaves first_version (t + 1) ns → Leaves first_version (t + 1) (joined more ++ ns)
unfolding joined allowed
joined_leave [] ns t f h = h
joined_leave (span lo hi ∷ more) ns t f h =
    ((refl, f.0), omega arith, ((refl, tt), omega arith, at_count first_version (joined more ++ ns) (t + 1) (t + 1 - 0 + 1 - 2 + 1) (omega arith) (joined_leave more ns t f.1 h)))

ranges_leave : (ss : List Span) (ns : List Node) (t : ℕ) → RangesFit ss → Leaves first_version (t + 1) ns → Leaves first_version t (ranges ss ++ ns)
unfolding ranges allowed
ranges_leave [] ns t f h = absurd f
ranges_leave (span lo hi ∷ more) ns t f h =
    ((refl, f.0), omega arith, at_count first_version (joined more ++ ns) (t + 1) (t - 0 + 1) (omega arith) (joined_leave more ns t f.1 h))

one_leaves : (ns : List Node) (t : ℕ) → Leaves first_version (t + 1) ns → Leaves first_version (t - 0 + 1) ns
one_leaves ns t h = at_count first_version ns (t + 1) (t - 0 + 1) (omega arith) h

two_leave : (ns : List Node) (t : ℕ) → Leaves first_version (t + 1) ns → Leaves first_version (t + 1 + 1 - 2 + 1) ns
two_leave ns t h = at_count first_version ns (t + 1) (t + 1 + 1 - 2 + 1) (omega arith) h

pub postfix_leaves : (e : Exp) (ns : List Node) (t : ℕ) → Fits e → Leaves first_version (t + 1) ns → Leaves first_version t (postfix e ++ ns)
unfolding postfix allowed
postfix_leaves (byte c) ns t f h = ((refl, (omega arith, f)), omega arith, one_leaves ns t h)
postfix_leaves dot ns t f h = ((refl, (omega arith, omega arith)), omega arith, one_leaves ns t h)
postfix_leaves (set s) ns t f h = ranges_leave (spans s) ns t (sets_fit s) h
postfix_leaves empty ns t f h = ((refl, tt), omega arith, one_leaves ns t h)
postfix_leaves (cat a b) ns t f h =
    leaves_as first_version t (three (postfix a) (postfix b) (Cat ∷ []) ns)
    (postfix_leaves a (postfix b ++ (Cat ∷ ns)) t f.0 (postfix_leaves b (Cat ∷ ns) (t + 1) f.1 ((refl, tt), omega arith, two_leave ns t h)))
postfix_leaves (alt a b) ns t f h =
    leaves_as first_version t (three (postfix a) (postfix b) (Alt ∷ []) ns)
    (postfix_leaves a (postfix b ++ (Alt ∷ ns)) t f.0 (postfix_leaves b (Alt ∷ ns) (t + 1) f.1 ((refl, tt), omega arith, two_leave ns t h)))
postfix_leaves (star a) ns t f h =
    leaves_as first_version t (append_assoc (postfix a) (Star ∷ []) ns) (postfix_leaves a (Star ∷ ns) t f ((refl, tt), omega arith, at_count first_version ns (t + 1) (t + 1 - 1 + 1) (omega arith) h))
postfix_leaves (plus a) ns t f h =
    leaves_as first_version t (three (postfix a) (postfix a) (Star ∷ Cat ∷ []) ns)
    (postfix_leaves a (postfix a ++ (Star ∷ Cat ∷ ns)) t f (postfix_leaves a (Star ∷ Cat ∷ ns) (t + 1) f
    ((refl, tt), omega arith, ((refl, tt), omega arith, at_count first_version ns (t + 1) (t + 1 + 1 - 1 + 1 - 2 + 1) (omega arith) h))))
postfix_leaves (maybe a) ns t f h =
    leaves_as first_version t (append_assoc (postfix a) (Empty ∷ Alt ∷ []) ns)
    (postfix_leaves a (Empty ∷ Alt ∷ ns) t f ((refl, tt), omega arith, ((refl, tt), omega arith, at_count first_version ns (t + 1) (t + 1 - 0 + 1 - 2 + 1) (omega arith) h)))
