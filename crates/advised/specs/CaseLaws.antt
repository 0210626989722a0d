-- The cases of advice_of: what is told of a text that was read, by its refusal and place, and of one that was not.
-- Theorems and code cite the same laws.
use Rattle.std.specs.Prelude.{ℕ, ◌≤◌, ◌<◌, ◌≡◌, refl, List, [], ◌∷◌, map, length, replicate}
use Rattle.std.proofs.Common.{sym, ◌∙◌, arith, eq-eqb, ne_eqb, lt-ltb, le-ltb}
use Rattle.number.specs.declared.Refusal.{Refusal}
use Rattle.number.specs.declared.Refusal.TheVariants.{Short, Number, Range, Stack, Tail, Long, Pool, States, Runs, Loaded, Room, Pairs, Input, Typed, Padded}
use Rattle.number.specs.Limits.{rules_file}
use Rattle.meaning.specs.Re.{Text}
use Rattle.number.specs.Quoted.{quoted}
use Rattle.advised.specs.Advice.{typed_advice, range_advice, no_rule, unread, advice_on, advice_of}

pub typed_outside : (text : Text) (p : ℕ) → length text < p → [] ≡ advice_on text (Typed p)
unfolding advice_on
typed_outside text p h = sym (rw (lt-ltb (length text) p h) refl)

pub typed_inside : (text : Text) (p : ℕ) → p ≤ length text → typed_advice text p ≡ advice_on text (Typed p)
unfolding advice_on
typed_inside text p h = sym (rw (le-ltb (length text) p h) refl)

pub range_none : {w : List ℕ} (text : Text) (p : ℕ) → length text ≡ 0 → w ≡ quoted "words.rules has no rule.\n" → w ≡ advice_on text (Range p)
unfolding advice_on no_rule
range_none text p h e = e ∙ sym (rw (eq-eqb (length text) 0 h) refl)

pub range_outside : (text : Text) (p : ℕ) → (length text ≡ 0 → ⊥) → length text < p → [] ≡ advice_on text (Range p)
unfolding advice_on
range_outside text p n h = sym (rw (ne_eqb (length text) 0 n, lt-ltb (length text) p h) refl)

pub range_inside : (text : Text) (p : ℕ) → (length text ≡ 0 → ⊥) → p ≤ length text → range_advice text p ≡ advice_on text (Range p)
unfolding advice_on
range_inside text p n h = sym (rw (ne_eqb (length text) 0 n, le-ltb (length text) p h) refl)

pub unread_told : (text : Text) (r : Refusal) → rules_file < length text → unread ≡ advice_of text r
unfolding advice_of
unread_told text r h = sym (rw (lt-ltb rules_file (length text) h) refl)

pub read_told : (text : Text) (r : Refusal) → length text ≤ rules_file → advice_on text r ≡ advice_of text r
unfolding advice_of
read_told text r h = sym (rw (le-ltb rules_file (length text) h) refl)

-- what is told nothing of
pub untold : (text : Text) (p : ℕ) → 0 < length text → length text ≤ rules_file
    → (map (advice_of text) (Short p ∷ Number p ∷ Stack p ∷ Tail p ∷ Long p ∷ Pool p ∷ States p ∷ Runs p ∷ Loaded ∷ Room ∷ Pairs p ∷ Input ∷ Padded p ∷ []) ≡ replicate 13 [])
    × (length text < p → map (advice_of text) (Typed p ∷ Range p ∷ []) ≡ replicate 2 [])
unfolding advice_of advice_on
untold text p some fits =
    rw (le-ltb rules_file (length text) fits)
    (refl, λ h. rw (ne_eqb (length text) 0 (λ z. omega arith), lt-ltb (length text) p h) refl)
