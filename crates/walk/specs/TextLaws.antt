-- Laws of the order of texts: it is transitive, nothing is sooner than itself, and a byte more at the end keeps it.
-- The walk finds its items by texts that rise in this order.
use Rattle.std.specs.Prelude.{ℕ, zero, suc, ◌<◌, ◌≤◌, ◌≡◌, refl, [], ◌∷◌, ◌++◌, ◌⊎◌, length, get_or, take, drop}
use Rattle.std.proofs.Common.{sym, ap, subst, ◌∙◌, append-nil, inl, inr, arith, lt_trans, length-append, length-take, length-drop, take_all, take_at}
use Rattle.std.proofs.Math.Decide.{dec_lt}
use Rattle.std.proofs.lemmas.List.{get_or_at}
use Rattle.std.proofs.Math.Seq.{get_or-append_seam}
use Rattle.meaning.specs.Re.{Text}
use Rattle.walk.specs.Texts.{Lower, Sooner, NotLater}
use Rattle.walk.specs.Texts.Lower.{here, later}
use Rattle.walk.specs.Texts.Sooner.{shorter, lower}
use Rattle.walk.specs.Texts.NotLater.{equal, sooner}

pub length_snoc : (w : Text) (c : ℕ) → length (w ++ (c ∷ [])) ≡ suc (length w)
length_snoc w c = let e = length-append w (c ∷ []) in omega arith

-- a text with a byte behind it is not empty, and its front and its last byte are its own
pub snoc_some : (w : Text) (c : ℕ) → w ++ (c ∷ []) ≡ [] → ⊥
snoc_some w c e = let l = sym (length_snoc w c) ∙ ap length e in omega arith

pub snoc_front : (v w : Text) (c d : ℕ) → v ++ (c ∷ []) ≡ w ++ (d ∷ []) → v ≡ w
snoc_front v w c d e =
    let l : length w ≡ length v = omega (arith, sym (length_snoc v c) ∙ ap length e ∙ length_snoc w d) in
    sym (take_at v (c ∷ []) (length v) refl) ∙ ap (take (length v)) e ∙ take_at w (d ∷ []) (length v) l

pub snoc_last : (v w : Text) (c d : ℕ) → v ++ (c ∷ []) ≡ w ++ (d ∷ []) → c ≡ d
snoc_last v w c d e =
    let l : length w ≡ length v = omega (arith, sym (length_snoc v c) ∙ ap length e ∙ length_snoc w d) in
    sym (get_or-append_seam v c [] 0) ∙ ap (λ (u : Text). get_or u (length v) 0) e ∙ get_or_at w d [] 0 (length v) l

lower_trans : {u v w : Text} → Lower u v → Lower v w → Lower u w
lower_trans (here h) (here k) = here (lt_trans h k)
lower_trans (here h) (later c l) = here h
lower_trans (later c l) (here k) = here k
lower_trans (later c l) (later d m) = later c (lower_trans l m)

pub sooner_trans : {u v w : Text} → Sooner u v → Sooner v w → Sooner u w
sooner_trans (shorter h) (shorter k) = shorter (omega arith)
sooner_trans (shorter h) (lower e l) = shorter (omega arith)
sooner_trans (lower e l) (shorter k) = shorter (omega arith)
sooner_trans (lower e l) (lower d m) = lower (e ∙ d) (lower_trans l m)

lower_apart : {v w : Text} → Lower v w → v ≡ w → ⊥
lower_apart (here {c} {d} {v} {w} h) e = let g : c ≡ d = cc in omega arith
lower_apart (later c {v} {w} l) e = lower_apart l (let g : v ≡ w = cc in g)

lower_self : {w : Text} → Lower w w → ⊥
lower_self l = lower_apart l refl

pub sooner_self : {w : Text} → Sooner w w → ⊥
sooner_self (shorter h) = omega arith
sooner_self (lower e l) = lower_self l

pub not_later_trans : {u v w : Text} → NotLater u v → NotLater v w → NotLater u w
not_later_trans (equal e) (equal d) = equal (e ∙ d)
not_later_trans {w = w} (equal e) (sooner s) = sooner (subst (λ (x : Text). Sooner x w) (sym e) s)
not_later_trans {u} (sooner s) (equal d) = sooner (subst (Sooner u) d s)
not_later_trans (sooner s) (sooner t) = sooner (sooner_trans s t)

-- what is not later than a text is not later than it, whatever is sooner
pub sooner_not_later : {u v w : Text} → Sooner u v → NotLater v w → Sooner u w
sooner_not_later {u} s (equal e) = subst (Sooner u) e s
sooner_not_later s (sooner t) = sooner_trans s t

pub not_later_sooner : {u v w : Text} → NotLater u v → Sooner v w → Sooner u w
not_later_sooner {w = w} (equal e) s = subst (λ (x : Text). Sooner x w) (sym e) s
not_later_sooner (sooner t) s = sooner_trans t s

-- a byte more at the end of each
lower_snoc : {v w : Text} (c d : ℕ) → Lower v w → Lower (v ++ (c ∷ [])) (w ++ (d ∷ []))
lower_snoc c d (here h) = here h
lower_snoc c d (later b l) = later b (lower_snoc c d l)

pub sooner_snoc : {v w : Text} (c d : ℕ) → Sooner v w → Sooner (v ++ (c ∷ [])) (w ++ (d ∷ []))
sooner_snoc {v} {w} c d (shorter h) = shorter (omega (arith, length_snoc v c, length_snoc w d))
sooner_snoc {v} {w} c d (lower e l) = lower (omega (arith, length_snoc v c, length_snoc w d)) (lower_snoc c d l)

pub not_later_snoc : {v w : Text} (c : ℕ) → NotLater v w → NotLater (v ++ (c ∷ [])) (w ++ (c ∷ []))
not_later_snoc c (equal e) = equal (ap (λ (x : Text). x ++ (c ∷ [])) e)
not_later_snoc c (sooner s) = sooner (sooner_snoc c c s)

lower_last : (w : Text) {c d : ℕ} → c < d → Lower (w ++ (c ∷ [])) (w ++ (d ∷ []))
lower_last [] h = here h
lower_last (b ∷ w) h = later b (lower_last w h)

pub sooner_last : (w : Text) {c d : ℕ} → c < d → Sooner (w ++ (c ∷ [])) (w ++ (d ∷ []))
sooner_last w {c} {d} h = lower (omega (arith, length_snoc w c, length_snoc w d)) (lower_last w h)

-- the empty text comes first
pub empty_first : (w : Text) (c : ℕ) → Sooner [] (w ++ (c ∷ []))
empty_first w c = shorter (omega (arith, length_snoc w c))

-- the front of a text is not later than it
pub not_later_front : (v w : Text) → NotLater v (v ++ w)
not_later_front v [] = equal (sym (append-nil v))
not_later_front v (c ∷ w) = sooner (shorter (omega (arith, length-append v (c ∷ w))))

none_lower : {v w : Text} → Lower v w → 0 < length w
none_lower (here h) = omega arith
none_lower (later c l) = omega arith

-- nothing is sooner than the empty text
pub sooner_some : {v w : Text} → Sooner v w → 0 < length w
sooner_some (shorter h) = omega arith
sooner_some (lower e l) = none_lower l

pub none_sooner : {v : Text} → Sooner v [] → ⊥
none_sooner s = let l = sooner_some s in omega arith

-- of two texts, one is not later than the other
data Which (v w : Text) : Type 0 where
  first : Lower v w → Which v w
  same : v ≡ w → Which v w
  second : Lower w v → Which v w

which_more : (c : ℕ) {v w : Text} → Which v w → Which (c ∷ v) (c ∷ w)
which_more c (first l) = first (later c l)
which_more c (same e) = same (ap (λ (x : Text). c ∷ x) e)
which_more c (second l) = second (later c l)

which : (v w : Text) → length v ≡ length w → Which v w
which [] [] e = same refl
which [] (d ∷ w) e = absurd (omega arith)
which (c ∷ v) [] e = absurd (omega arith)
which (c ∷ v) (d ∷ w) e =
    elim (dec_lt c d) [
      | yes h ↦ first (here h)
      | no f ↦ elim (dec_lt d c) [
        | yes h ↦ second (here h)
        | no g ↦
            let z : c ≡ d = omega arith in
            subst (λ (x : ℕ). Which (c ∷ v) (x ∷ w)) z (which_more c (which v w (omega arith)))
      ]
    ]

pub not_later_or : (v w : Text) → NotLater v w ⊎ Sooner w v
not_later_or v w =
    elim (dec_lt (length v) (length w)) [
      | yes h ↦ inl (sooner (shorter h))
      | no f ↦ elim (dec_lt (length w) (length v)) [
        | yes h ↦ inr (shorter h)
        | no g ↦ let e : length v ≡ length w = omega arith in go e (which v w e)
      ]
    ]
  where
    go : length v ≡ length w → Which v w → NotLater v w ⊎ Sooner w v
    go e (first l) = inl (sooner (lower e l))
    go e (same z) = inl (equal z)
    go e (second l) = inr (lower (sym e) l)

-- a piece of a text is sooner than whatever the text is sooner than
sooner_length : {v w : Text} → Sooner v w → length v ≤ length w
sooner_length (shorter h) = omega arith
sooner_length (lower e l) = omega arith

pub sooner_drop : (n : ℕ) (v : Text) {w : Text} → Sooner v w → Sooner (drop n v) w
sooner_drop zero v s = s
sooner_drop (suc n) [] s = s
sooner_drop (suc n) (c ∷ v) s = shorter (omega (arith, sooner_length s, length-drop n v))

pub sooner_take : (m : ℕ) (v : Text) {w : Text} → Sooner v w → Sooner (take m v) w
sooner_take m v {w} s =
    elim (dec_lt m (length v)) [
      | yes h ↦ shorter (omega (arith, sooner_length s, length-take m v))
      | no f ↦ rw (take_all m v (omega arith)) s
    ]
