-- Where the line of a place starts, as the definition goes over the bytes before it.
-- A newline starts a line behind it; any other byte leaves the line's start where it was.
use Rattle.std.specs.Prelude.{ℕ, ◌+◌, ◌-◌, ◌<◌, ◌≡◌, refl, Bool, true, false, cond, [], ◌∷◌, ◌++◌, eqb, length, take, get_or}
use Rattle.std.proofs.Common.{arith, sym, ap, subst, ◌∙◌, append_assoc, append-nil, inl, inr, length-append, get_or-take, eqb-true}
use Rattle.std.proofs.Math.Decide.{dec_lt}
use Rattle.std.proofs.Math.Seq.{take-append_seam, get_or-append_seam}
use Rattle.std.proofs.lemmas.Bool.{eqb-false}
use Rattle.meaning.specs.Re.{Text}
use Rattle.advised.specs.Advice.{newline, last_start, start_at}
use Rattle.advised.specs.Bought.{StartOfLine}

get_d_front : (u v : Text) (i : ℕ) → i < length u → get_or (u ++ v) i 0 ≡ get_or u i 0
get_d_front u v i h = sym (get_or-take (length u) (u ++ v) i 0 h) ∙ ap (λ w. get_or w i 0) (take-append_seam u v)

start_newline : (u : Text) (c : ℕ) → c ≡ newline → StartOfLine (u ++ (c ∷ [])) (length u + 1)
start_newline u c e =
    record {
      inside = omega (arith, length-append u (c ∷ []));
      opens = inr (omega arith, ap (λ i. get_or (u ++ (c ∷ [])) i 0) (back (length u)) ∙ get_or-append_seam u c [] 0 ∙ e);
      unbroken = λ i l m z. absurd (omega (arith, length-append u (c ∷ [])));
    }
  where
    back : (n : ℕ) → n + 1 - 1 ≡ n
    back n = omega arith

start_other : (u : Text) (c start : ℕ) → (c ≡ newline → ⊥) → StartOfLine u start → StartOfLine (u ++ (c ∷ [])) start
start_other u c start n s =
    record {
      inside = omega (arith, length-append u (c ∷ []), s.inside);
      opens = elim s.opens [
        | inl e ↦ inl e
        | inr e ↦ inr (e.0, get_d_front u (c ∷ []) (start - 1) (omega (arith, s.inside, e.0)) ∙ e.1)
      ];
      unbroken = λ i l m z. elim (dec_lt i (length u)) [
        | yes h ↦ s.unbroken i l h (sym (get_d_front u (c ∷ []) i h) ∙ z)
        | no g ↦ n (sym (at_last i (omega (arith, length-append u (c ∷ [])))) ∙ z)
      ];
    }
  where
    at_last : (i : ℕ) → i ≡ length u → get_or (u ++ (c ∷ [])) i 0 ≡ c
    at_last i e = ap (λ k. get_or (u ++ (c ∷ [])) k 0) e ∙ get_or-append_seam u c [] 0

starts : (u t : Text) (start : ℕ) → StartOfLine u start → StartOfLine (u ++ t) (last_start start (length u) t)
unfolding last_start
starts u [] start s = subst (λ w. StartOfLine w start) (sym (append-nil u)) s
starts u (c ∷ t) start s = by_byte (eqb c newline) refl (λ next o. starts (u ++ (c ∷ [])) t next o)
  where
    Onward : Type 0
    Onward = (next : ℕ) → StartOfLine (u ++ (c ∷ [])) next → StartOfLine ((u ++ (c ∷ [])) ++ t) (last_start next (length (u ++ (c ∷ []))) t)

    onward : Onward → (next : ℕ) → StartOfLine (u ++ (c ∷ [])) next → StartOfLine (u ++ (c ∷ t)) (last_start next (length u + 1) t)
    onward go next o =
        subst (λ w. StartOfLine w (last_start next (length u + 1) t)) (append_assoc u (c ∷ []) t)
        (subst (λ k. StartOfLine ((u ++ (c ∷ [])) ++ t) (last_start next k t)) (length-append u (c ∷ [])) (go next o))

    by_byte : (b : Bool) → eqb c newline ≡ b → Onward
        → StartOfLine (u ++ (c ∷ t)) (last_start (cond (eqb c newline) (length u + 1) start) (length u + 1) t)
    by_byte true e go = rw e (onward go (length u + 1) (start_newline u c (eqb-true c newline e)))
    by_byte false e go = rw e (onward go start (start_other u c start (eqb-false c newline e) s))

pub line_starts : (text : Text) (p : ℕ) → StartOfLine (take p text) (start_at text p)
line_starts text p = starts [] (take p text) 0 (record { inside = omega arith; opens = inl refl; unbroken = λ i l m z. absurd (omega arith) })
