-- In a line that is spelled a newline stands at its end and nowhere else.
-- So a line starts after as many newlines as there are lines before it, which is how `start_of` finds the place of a refusal.
use Rattle.std.specs.Prelude.{ℕ, suc, ◌+◌, ◌≡◌, refl, Bool, true, false, List, [], ◌∷◌, ◌++◌, eqb, length}
use Rattle.std.proofs.Common.{arith, sym, ap, ◌∙◌, append_assoc, length-append, eqb-true}
use Rattle.std.proofs.Math.Option.Option.{none}
use Rattle.meaning.specs.Re.{Text}
use Rattle.meaning.specs.Tests.{clash}
use Rattle.typed.specs.Sets.{Set, named}
use Rattle.typed.specs.Sets.Set.{alnum, alpha, blank, cntrl, digit, graph, lower, print, punct, space, upper, xdigit}
use Rattle.typed.specs.Exp.{Exp}
use Rattle.typed.specs.Spells.{between, bare, hex, Part, Spells}
use Rattle.typed.specs.Spells.Spells.{itself, escaped, dotted, among, hollow, grouped, unmarked, starred, plussed, optional, alone, next, only, or}
use Rattle.typed.specs.Lines.{Line, digit as digit_of, Counts, Kinds, SpellsLine, SpellsAll}
use Rattle.typed.specs.Lines.Counts.{leads, goes_on}
use Rattle.typed.specs.Lines.Kinds.{nought, counts}
use Rattle.typed.specs.Lines.SpellsLine.{line}
use Rattle.typed.specs.Lines.SpellsAll.{no_line, one_more}
use Rattle.typed.specs.Calls.{start_of}
use Rattle.typed.specs.TestLaws.{none_some}

-- no newline among these bytes
abbrev NoBreak : Text → Type 0
NoBreak [] = Unit {0}
NoBreak (c ∷ t) = (eqb c 10 ≡ false) × NoBreak t

both_none : (v w : Text) → NoBreak v → NoBreak w → NoBreak (v ++ w)
both_none [] w a b = b
both_none (c ∷ v) w a b = (a.0, both_none v w a.1 b)

-- a byte that takes another way than the newline's is none
other_way : {A : Type 0} (f : ℕ → A) (c : ℕ) {x y : A} → f c ≡ x → f 10 ≡ y → (y ≡ x → ⊥) → eqb c 10 ≡ false
other_way f c {x} {y} e d n = go (eqb c 10) refl
  where
    go : (b : Bool) → eqb c 10 ≡ b → b ≡ false
    go false h = refl
    go true h = absurd (n (sym d ∙ ap f (sym (eqb-true c 10 h)) ∙ e))

not_bare : bare 10 ≡ false
unfolding bare between
not_bare = refl

not_hex : hex 10 ≡ none
unfolding hex between
not_hex = refl

not_digit : digit_of 10 ≡ none
unfolding digit_of between
not_digit = refl

named_none : (s : Set) → NoBreak (named s)
unfolding named
named_none alnum = (refl, (refl, (refl, (refl, (refl, (refl, tt))))))
named_none alpha = (refl, (refl, (refl, (refl, (refl, (refl, tt))))))
named_none blank = (refl, (refl, (refl, (refl, (refl, (refl, tt))))))
named_none cntrl = (refl, (refl, (refl, (refl, (refl, (refl, tt))))))
named_none digit = (refl, (refl, (refl, (refl, (refl, (refl, tt))))))
named_none graph = (refl, (refl, (refl, (refl, (refl, (refl, tt))))))
named_none lower = (refl, (refl, (refl, (refl, (refl, (refl, tt))))))
named_none print = (refl, (refl, (refl, (refl, (refl, (refl, tt))))))
named_none punct = (refl, (refl, (refl, (refl, (refl, (refl, tt))))))
named_none space = (refl, (refl, (refl, (refl, (refl, (refl, tt))))))
named_none upper = (refl, (refl, (refl, (refl, (refl, (refl, tt))))))
named_none xdigit = (refl, (refl, (refl, (refl, (refl, (refl, (refl, tt)))))))

spelled_none : {p : Part} {n : ℕ} {w : Text} {e : Exp} → Spells p n w e → NoBreak w
spelled_none (itself {c = c} h) = (other_way bare c h not_bare (λ e. clash e refl), tt)
spelled_none (escaped {g = g} {h = h} d e) = (refl, (other_way hex g d not_hex none_some, (other_way hex h e not_hex none_some, tt)))
spelled_none dotted = (refl, tt)
spelled_none (among s) = (refl, named_none s)
spelled_none hollow = (refl, (refl, tt))
spelled_none (grouped {w = w} h) = (refl, both_none w (41 ∷ []) (spelled_none h) (refl, tt))
spelled_none (unmarked h) = spelled_none h
spelled_none (starred {w = w} h) = both_none w (42 ∷ []) (spelled_none h) (refl, tt)
spelled_none (plussed {w = w} h) = both_none w (43 ∷ []) (spelled_none h) (refl, tt)
spelled_none (optional {w = w} h) = both_none w (63 ∷ []) (spelled_none h) (refl, tt)
spelled_none (alone h) = spelled_none h
spelled_none (next {v = v} {w = w} g h) = both_none v w (spelled_none g) (spelled_none h)
spelled_none (only h) = spelled_none h
spelled_none (or {v = v} {w = w} g h) = both_none v (124 ∷ w) (spelled_none g) (refl, spelled_none h)

counts_none : {w : Text} {k : ℕ} → Counts w k → NoBreak w
counts_none (leads c h) = (other_way digit_of c h not_digit none_some, tt)
counts_none (goes_on {w = w} c g h) = both_none w (c ∷ []) (counts_none g) (other_way digit_of c h not_digit none_some, tt)

kind_none : {w : Text} {k : ℕ} → Kinds w k → NoBreak w
kind_none nought = (refl, tt)
kind_none (counts c) = counts_none c

-- the start of a line is sought past bytes without a newline, past a newline, past a line and past lines
past_none : (v t : Text) (i p : ℕ) → NoBreak v → start_of (suc i) p (v ++ t) ≡ start_of (suc i) (p + length v) t
unfolding start_of
past_none [] t i p h = ap (λ (q : ℕ). start_of (suc i) q t) (omega arith)
past_none (c ∷ v) t i p h = rw (h.0, start_of) (past_none v t i (p + 1) h.1 ∙ ap (λ (q : ℕ). start_of (suc i) q t) (omega arith))

past_newline : (t : Text) (i p : ℕ) → start_of (suc i) p (10 ∷ t) ≡ start_of i (p + 1) t
unfolding start_of
past_newline t i p = refl

line_parts : (v w t : Text) → (v ++ (58 ∷ (w ++ (10 ∷ [])))) ++ t ≡ (v ++ (58 ∷ w)) ++ (10 ∷ t)
line_parts v w t = append_assoc v (58 ∷ (w ++ (10 ∷ []))) t ∙ ap (λ (x : Text). v ++ (58 ∷ x)) (append_assoc w (10 ∷ []) t) ∙ sym (append_assoc v (58 ∷ w) (10 ∷ t))

line_length : (v w : Text) → length (v ++ (58 ∷ w)) + 1 ≡ length (v ++ (58 ∷ (w ++ (10 ∷ []))))
line_length v w = omega (arith, length-append v (58 ∷ w), length-append v (58 ∷ (w ++ (10 ∷ []))), length-append w (10 ∷ []))

past_line : {w : Text} {l : Line} → SpellsLine w l → (t : Text) (i p : ℕ) → start_of (suc i) p (w ++ t) ≡ start_of i (p + length w) t
past_line (line {v = v} {w = w} k s) t i p =
    ap (start_of (suc i) p) (line_parts v w t)
    ∙ past_none (v ++ (58 ∷ w)) (10 ∷ t) i p (both_none v (58 ∷ w) (kind_none k) (refl, spelled_none s))
    ∙ past_newline t i (p + length (v ++ (58 ∷ w)))
    ∙ ap (λ (q : ℕ). start_of i q t) (omega (arith, line_length v w))

pub past_lines : {v : Text} {ls : List Line} → SpellsAll v ls → (t : Text) (i p : ℕ) → start_of (length ls + i) p (v ++ t) ≡ start_of i (p + length v) t
past_lines no_line t i p =
    ap (λ (j : ℕ). start_of j p t) (omega arith) ∙ ap (λ (q : ℕ). start_of i q t) (omega arith)
past_lines (one_more {v = v} {w = w} {ls = ls} {l = l} a s) t i p =
    ap (λ (j : ℕ). start_of j p ((v ++ w) ++ t)) (omega (arith, length-append ls (l ∷ [])))
    ∙ ap (start_of (length ls + suc i) p) (append_assoc v w t)
    ∙ past_lines a (w ++ t) (suc i) p
    ∙ past_line s t i (p + length v)
    ∙ ap (λ (q : ℕ). start_of i q t) (omega (arith, length-append v w))

-- so the line after these starts where their text ends
pub start_after : {v : Text} {ls : List Line} → SpellsAll v ls → (t : Text) → start_of (length ls) 0 (v ++ t) ≡ length v
unfolding start_of
start_after {v} {ls} a t =
    let more : length ls ≡ length ls + 0 = omega arith in
    let end : start_of 0 (0 + length v) t ≡ length v = omega arith in
    ap (λ (j : ℕ). start_of j 0 (v ++ t)) more ∙ past_lines a t 0 0 ∙ end
