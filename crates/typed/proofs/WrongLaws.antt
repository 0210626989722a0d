-- The reader stops at exactly the place where a text is wrong: what WrongAt says of a place, it says of one place only.
-- LineLaws has the one way, from the reader's answer to WrongAt; this is the other.
use Rattle.std.specs.Prelude.{ℕ, suc, ◌<◌, ◌≡◌, refl, List, ◌++◌, ◌↔◌, length, take, drop}
use Rattle.std.proofs.Common.{arith, sym, ap, subst, ◌∙◌, append_assoc, take-append-drop, take-take}
use Rattle.std.proofs.Math.Decide.{dec_lt}
use Rattle.meaning.specs.Re.{Text}
use Rattle.typed.specs.Lines.{Line, RightlyTyped, WrongAt}
use Rattle.typed.specs.Scan.{Reading}
use Rattle.typed.specs.Scan.Reading.{typed, wrong}
use Rattle.typed.specs.LineReader.{read_lines}
use Rattle.typed.proofs.LineLaws.{the_typing, the_wrong_byte}

rightly_as : {v w : Text} → v ≡ w → RightlyTyped v → RightlyTyped w
rightly_as h r = subst RightlyTyped h r

-- a text that is cut off after p begins with what stands up to and with p, if it is cut off later
cut_later : (text rest : Text) (p q : ℕ) → p < q → take q text ++ rest ≡ take (suc p) text ++ (drop (suc p) (take q text) ++ rest)
cut_later text rest p q h =
    ap (◌++ rest) (sym (take-append-drop (suc p) (take q text)) ∙ ap (◌++ drop (suc p) (take q text)) (take-take (suc p) q text h))
    ∙ append_assoc (take (suc p) text) (drop (suc p) (take q text)) rest

-- so no place after a wrong one is wrong
not_after : (text : Text) (p q : ℕ) → WrongAt text p → WrongAt text q → p < q → ⊥
not_after text p q a b h =
    a.no_other (omega (arith, b.inside)) (drop (suc p) (take q text) ++ b.rest) (rightly_as (cut_later text b.rest p q h) b.goes_on)

one_place : (text : Text) (p q : ℕ) → WrongAt text p → WrongAt text q → q ≡ p
one_place text p q a b =
    elim (dec_lt p q) [
      | yes h ↦ absurd (not_after text p q a b h)
      | no n ↦ elim (dec_lt q p) [ yes h ↦ absurd (not_after text q p b a h) | no m ↦ omega arith ]
    ]

-- and a rightly typed text is wrong nowhere
never_wrong : (text : Text) (p : ℕ) → WrongAt text p → RightlyTyped text → ⊥
never_wrong text p a r =
    elim (dec_lt p (length text)) [
      | yes h ↦ a.no_other h (drop (suc p) text) (rightly_as (sym (take-append-drop (suc p) text)) r)
      | no n ↦ a.not_the_end (omega (arith, a.inside)) r
    ]

wrong_read : (text : Text) (p : ℕ) → WrongAt text p → read_lines text ≡ wrong p
wrong_read text p a = go (read_lines text) refl
  where
    go : (x : Reading (List Line)) → read_lines text ≡ x → x ≡ wrong p
    go (typed ls) e = absurd (never_wrong text p a (record { lines = ls; spells = (the_typing text ls).0 e }))
    go (wrong q) e = ap wrong (one_place text p q a (the_wrong_byte text q e))

pub wrong_byte : (text : Text) (p : ℕ) → (read_lines text ≡ wrong p) ↔ WrongAt text p
wrong_byte text p = (the_wrong_byte text p, wrong_read text p)
