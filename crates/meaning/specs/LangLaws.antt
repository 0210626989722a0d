-- Laws of languages, proved once and used of expressions: what stands after a byte, what is neutral, what may be regrouped.
-- No expression occurs here: a kind of expression more has at most a way more to join languages here, and that what is the same stays the same.
use Rattle.std.specs.Prelude.{ℕ, ◌≡◌, refl, List, [], ◌∷◌, ◌++◌, ◌↔◌, ◌⊎◌}
use Rattle.std.proofs.Common.{sym, ap, subst, ◌∙◌, append_assoc, append-nil, inl, inr, arith}
use Rattle.meaning.specs.Re.{Text}
use Rattle.meaning.specs.Lang.{Lang, Same, Then, Many, Each, join, After}

-- a text with a byte is not the empty one
pub cons_nil : {c : ℕ} {w : Text} → c ∷ w ≡ [] → ⊥
cons_nil e = let z : ◌≡◌ {A = ℕ} 0 1 = cc in omega arith

-- sameness is an equivalence, and both ways to join keep it
pub same_refl : (P : Lang) → Same P P
same_refl P w = (λ m. m, λ m. m)

module _ {P Q : Lang} where
  pub same_sym : Same P Q → Same Q P
  same_sym e w = ((e w).1, (e w).0)

module _ {P Q R : Lang} where
  pub same_trans : Same P Q → Same Q R → Same P R
  same_trans e f w = (λ m. (f w).0 ((e w).0 m), λ m. (e w).1 ((f w).1 m))

module _ {P P' Q Q' : Lang} where
  pub then_map : {w : Text} → ((v : Text) → P v → P' v) → ((v : Text) → Q v → Q' v) → Then P Q w → Then P' Q' w
  then_map f g m = record { front = m.front; back = m.back; whole = m.whole; fore = f _ m.fore; aft = g _ m.aft }

  pub then_same : Same P P' → Same Q Q' → Same (Then P Q) (Then P' Q')
  then_same e f w = (then_map (λ v. (e v).0) (λ v. (f v).0), λ m. record { front = m.front; back = m.back; whole = m.whole; fore = (e _).1 m.fore; aft = (f _).1 m.aft })

module _ {P Q : Lang} where
  each_map : ((v : Text) → P v → Q v) → (xs : List Text) → Each P xs → Each Q xs
  each_map f [] m = tt
  each_map f (x ∷ xs) m = (f x m.0, each_map f xs m.1)

  pub many_map : {w : Text} → ((v : Text) → P v → Q v) → Many P w → Many Q w
  unfolding each_map
  many_map f m = record { parts = m.parts; whole = m.whole; each = each_map f m.parts m.each }

module _ {P Q : Lang} where
  pub many_same : Same P Q → Same (Many P) (Many Q)
  many_same e w = (many_map (λ v. (e v).0), many_map (λ v. (e v).1))

-- after a byte: it comes from the front text, or the front text is empty and it comes from the back one
module _ (P Q : Lang) {c : ℕ} {w : Text} where
  then_after : (front back : Text) → c ∷ w ≡ front ++ back → P front → Q back → Then (After c P) Q w ⊎ (P [] × After c Q w)
  then_after [] back e p q = inr (p, subst Q (sym e) q)
  then_after (d ∷ front) back e p q =
      let first : d ≡ c = cc in
      let rest : w ≡ front ++ back = cc in
      inl (record { front = front; back = back; whole = rest; fore = subst (λ (x : ℕ). P (x ∷ front)) first p; aft = q })

module _ {P Q : Lang} {c : ℕ} {w : Text} where
  pub then_cons : Then P Q (c ∷ w) ↔ (Then (After c P) Q w ⊎ (P [] × After c Q w))
  then_cons = (
    λ m. then_after P Q m.front m.back m.whole m.fore m.aft,
    elim [
      | inl m ↦ record { front = c ∷ m.front; back = m.back; whole = ap (λ (v : Text). c ∷ v) m.whole; fore = m.fore; aft = m.aft }
      | inr m ↦ record { front = []; back = c ∷ w; whole = refl; fore = m.0; aft = m.1 }
    ],
  )

-- the empty text is joined of empty texts only
module _ (P Q : Lang) where
  then_empty : (front back : Text) → [] ≡ front ++ back → P front → Q back → P [] × Q []
  then_empty [] back e p q = (p, subst Q (sym e) q)
  then_empty (d ∷ front) back e p q = absurd (cons_nil (sym e))

module _ {P Q : Lang} where
  pub then_nil : Then P Q [] ↔ (P [] × Q [])
  then_nil = (λ m. then_empty P Q m.front m.back m.whole m.fore m.aft, λ m. record { front = []; back = []; whole = refl; fore = m.0; aft = m.1 })

module _ {P : Lang} where
  -- no text at all is the empty text
  pub many_nil : Many P []
  many_nil = record { parts = []; whole = refl; each = tt }

  pub many_one : {w : Text} → P w → Many P w
  many_one {w} p = record { parts = w ∷ []; whole = sym (append-nil w); each = (p, tt) }

  -- one text more in front
  pub many_more : {w : Text} → Then P (Many P) w → Many P w
  many_more m = record { parts = m.front ∷ m.aft.parts; whole = m.whole ∙ ap (λ (v : Text). m.front ++ v) m.aft.whole; each = (m.fore, m.aft.each) }

module _ {P : Lang} {c : ℕ} {w : Text} where
  -- empty parts in front are passed over: the byte begins the first part that has one
  many_after : (xs : List Text) → c ∷ w ≡ join xs → Each P xs → Then (After c P) (Many P) w
  many_after [] e m = absurd (cons_nil e)
  many_after ([] ∷ xs) e m = many_after xs e m.1
  many_after ((d ∷ x) ∷ xs) e m =
      let first : d ≡ c = cc in
      let rest : w ≡ x ++ join xs = cc in
      record { front = x; back = join xs; whole = rest; fore = subst (λ (b : ℕ). P (b ∷ x)) first m.0; aft = record { parts = xs; whole = refl; each = m.1 } }

  pub many_cons : Many P (c ∷ w) ↔ Then (After c P) (Many P) w
  many_cons = (
    λ m. many_after m.parts m.whole m.each,
    λ m. many_more (record { front = c ∷ m.front; back = m.back; whole = ap (λ (v : Text). c ∷ v) m.whole; fore = m.fore; aft = m.aft }),
  )

-- what is neutral, and regrouping
abbrev pub None : Lang
None w = ⊥

abbrev pub Only[] : Lang
Only[] w = w ≡ []

module _ {P : Lang} where
  pub none_then : Same (Then None P) None
  none_then w = (λ m. m.fore, λ m. absurd m)

  pub then_none : Same (Then P None) None
  then_none w = (λ m. m.aft, λ m. absurd m)

  pub empty_then : Same (Then Only[] P) P
  empty_then w = (
    λ m. subst P (sym (m.whole ∙ ap (λ (v : Text). v ++ m.back) m.fore)) m.aft,
    λ p. record { front = []; back = w; whole = refl; fore = refl; aft = p },
  )

  pub then_only : Same (Then P Only[]) P
  then_only w = (
    λ m. subst P (sym (m.whole ∙ ap (λ (v : Text). m.front ++ v) m.aft ∙ append-nil m.front)) m.fore,
    λ p. record { front = w; back = []; whole = sym (append-nil w); fore = p; aft = refl },
  )

module _ {P Q R : Lang} where
  pub then_assoc : Same (Then (Then P Q) R) (Then P (Then Q R))
  then_assoc w = (
    λ m. record {
      front = m.fore.front;
      back = m.fore.back ++ m.back;
      whole = m.whole ∙ ap (λ (v : Text). v ++ m.back) m.fore.whole ∙ append_assoc m.fore.front m.fore.back m.back;
      fore = m.fore.fore;
      aft = record { front = m.fore.back; back = m.back; whole = refl; fore = m.fore.aft; aft = m.aft };
    },
    λ m. record {
      front = m.front ++ m.aft.front;
      back = m.aft.back;
      whole = m.whole ∙ ap (λ (v : Text). m.front ++ v) m.aft.whole ∙ sym (append_assoc m.front m.aft.front m.aft.back);
      fore = record { front = m.front; back = m.aft.front; whole = refl; fore = m.fore; aft = m.aft.fore };
      aft = m.aft.aft;
    },
  )

-- many empty texts are the empty text, and so are many of none
join_empty : (xs : List Text) → Each Only[] xs → join xs ≡ []
join_empty [] m = refl
join_empty (x ∷ xs) m = ap (λ (v : Text). v ++ join xs) m.0 ∙ join_empty xs m.1

pub many_empty : Same (Many Only[]) Only[]
many_empty w = (λ m. m.whole ∙ join_empty m.parts m.each, λ e. subst (Many Only[]) (sym e) many_nil)

pub many_none : Same (Many None) Only[]
many_none w = (λ m. (many_empty w).0 (many_map (λ v b. absurd b) m), λ e. subst (Many None) (sym e) many_nil)

join_append : (xs ys : List Text) → join (xs ++ ys) ≡ join xs ++ join ys
join_append [] ys = refl
join_append (x ∷ xs) ys = ap (λ (v : Text). x ++ v) (join_append xs ys) ∙ sym (append_assoc x (join xs) (join ys))

module _ (P : Lang) where
  each_append : (xs ys : List Text) → Each P xs → Each P ys → Each P (xs ++ ys)
  each_append [] ys p q = q
  each_append (x ∷ xs) ys p q = (p.0, each_append xs ys p.1 q)

  many_join : (xs : List Text) → Each (Many P) xs → Many P (join xs)
  many_join [] m = many_nil
  many_join (x ∷ xs) m =
      let r = many_join xs m.1 in
      record {
        parts = m.0.parts ++ r.parts;
        whole = ap (λ (v : Text). v ++ join xs) m.0.whole ∙ ap (λ (v : Text). join m.0.parts ++ v) r.whole ∙ sym (join_append m.0.parts r.parts);
        each = each_append m.0.parts r.parts m.0.each r.each;
      }

module _ {P : Lang} where
  pub many_many : Same (Many (Many P)) (Many P)
  many_many w = (λ m. subst (Many P) (sym m.whole) (many_join P m.parts m.each), λ m. many_one m)

-- either of two languages
module _ {P P' Q Q' : Lang} where
  pub either_same : Same P P' → Same Q Q' → Same (λ w. P w ⊎ Q w) (λ w. P' w ⊎ Q' w)
  either_same e f w =
      (elim [ inl m ↦ inl ((e w).0 m) | inr m ↦ inr ((f w).0 m) ], elim [ inl m ↦ inl ((e w).1 m) | inr m ↦ inr ((f w).1 m) ])

-- both of two languages, and the texts of none
module _ {P P' Q Q' : Lang} where
  pub both_same : Same P P' → Same Q Q' → Same (λ w. P w × Q w) (λ w. P' w × Q' w)
  both_same e f w = (λ m. ((e w).0 m.0, (f w).0 m.1), λ m. ((e w).1 m.0, (f w).1 m.1))

module _ {P Q : Lang} where
  pub not_same : Same P Q → Same (λ w. P w → ⊥) (λ w. Q w → ⊥)
  not_same e w = (λ f m. f ((e w).1 m), λ f m. f ((e w).0 m))
