-- One law a return, and one a turn of a loop, of the marks, the closing parenthesis, a sequence, a choice and an atom.
-- A reading is carried on from where the last one ended: its state is known up to the expression that was read.
use Rattle.std.specs.Prelude.{ℕ, suc, ◌+◌, ◌<◌, ◌≤◌, ◌≡◌, Bool, true, false, ◌||◌, List, [], ◌∷◌, eqb, length, Err}
use native.Mathlib.Omega.{arith}
use Rattle.std.proofs.Math.Path.{refl}
use Rattle.std.proofs.Common.{sym, ap, subst, ◌∙◌, eqb-true}
use Rattle.std.proofs.Math.Option.{Option}
use Rattle.std.proofs.Math.Option.Option.{none, some}
use Rattle.book.specs.declared.Node.TheVariants.{Empty, Cat, Alt}
use Rattle.typed.specs.Exp.{Exp, postfix}
use Rattle.typed.specs.Exp.Exp.{empty, cat, alt}
use Rattle.typed.specs.Spells.{between, bare}
use Rattle.typed.specs.Reader.{Key, Mark, Frame, State, cat_on, made, put, marked, key, opened, shut, shut_in, barred, by_key, step, ended}
use Rattle.typed.specs.Reader.{marks as marks_of}
use Rattle.typed.specs.Reader.Key.{mark, other}
use Rattle.typed.specs.Reader.Frame.{bared, held}
use Rattle.typed.specs.Reader.Mode.{plain}
use Rattle.typed.specs.Reader.State.{at}
use Rattle.typed.specs.Reader.Step.{wrong, go}
use Rattle.expression.specs.declared.Wrong.{Wrong}
use Rattle.laid.specs.Laid.{AddsCell, Adds, mark_of, Marked}
use Rattle.laid.specs.LaidLaws.{lays_capped, adds_node, adds_then}
use Rattle.names.specs.Bytes.{byte_at, starting, marking}
use Rattle.names.specs.ByteLaws.{byte_there, byte_past}
use Rattle.expression.specs.Reads.{Read, At, wrong_at, Goes, Reads, Within, Item, Row, Chosen, Any, NoMark, Breaks, Ends, AtomRead, SequenceRead, ChoiceRead}
use Rattle.expression.specs.Reads.Reads.{reads, stops}
use Rattle.expression.specs.Reads.Within.{ahead, not_back}
use Rattle.expression.specs.Reads.Due.{after_bar, not_shut, goes_on}
use Rattle.expression.specs.Reads.Item.{placed}
use Rattle.expression.specs.Reads.Row.{in_row}
use Rattle.expression.specs.Reads.Chosen.{chosen}
use Rattle.expression.specs.Steps.{LeafRead, MarksRead, ShutRead}
use Rattle.expression.specs.GoesLaws.{goes_none, goes_one, goes_then, reads_after, still_wrong, late_key, no_both}

-- ---- places

pub at_of : {p len q t : ℕ} → Within p len (At q t) → (p < q) × (q ≤ len)
at_of (ahead q h k) = (h, k)

pub wrong_of : {p len q : ℕ} → Within p len (wrong_at q) → (p ≤ q) × (q ≤ len)
wrong_of (not_back q h k) = (h, k)

-- further on from a place that was reached
further : {p q len : ℕ} {r : Read} → p ≤ q → Within q len r → Within p len r
further l (ahead q h k) = ahead q (omega arith) k
further l (not_back q h k) = not_back q (omega arith) k

-- another count at the same place
recounted : {p len q t : ℕ} (t' : ℕ) → Within p len (At q t) → Within p len (At q t')
recounted t' (ahead q h k) = ahead q h k

-- past the end a newline stands, which goes on with nothing
end_marks : (text : List ℕ) (p : ℕ) → length text ≤ p → marking (byte_at text p) ≡ false
unfolding marking
end_marks text p h = rw (← byte_past text p h) refl

end_starts : (text : List ℕ) (p : ℕ) → length text ≤ p → starting (byte_at text p) ≡ false
unfolding starting bare between
end_starts text p h = rw (← byte_past text p h) refl

end_bar : (text : List ℕ) (p : ℕ) → length text ≤ p → byte_at text p ≡ 124 → ⊥
end_bar text p h z = omega (arith, byte_past text p h)

-- ---- marks

mark_key : (c : ℕ) → marking c ≡ true → key c ≡ mark (mark_of c)
unfolding marking key bare between
mark_key c h = by_byte (eqb c 42) (eqb c 43) (eqb c 63) refl refl refl h
  where
    by_byte : (x y z : Bool) → eqb c 42 ≡ x → eqb c 43 ≡ y → eqb c 63 ≡ z → x || (y || z) ≡ true → key c ≡ mark (mark_of c)
    by_byte true y z i j k h = rw (eqb-true c 42 i) refl
    by_byte false true z i j k h = rw (eqb-true c 43 j) refl
    by_byte false false true i j k h = rw (eqb-true c 63 k) refl
    by_byte false false false i j k h = absurd (no_both (sym h))

mark_step : (c : ℕ) (e : Exp) (f : Frame) (fs : List Frame) (n : ℕ) → marking c ≡ true
    → step (at plain (put e f) fs n) c ≡ go (at plain (put (marked (mark_of c) e) f) fs n)
unfolding step by_key marks_of
mark_step c e (bared b) fs n h = rw (mark_key c h) refl
mark_step c e (held b r l) fs n h = rw (mark_key c h) refl

marked_adds : {c₀ cells cells' : List ℕ} {start t t' : ℕ} (m : Mark) (e : Exp) → Adds c₀ start (postfix e) cells t → Marked m cells start t cells' t'
    → Adds c₀ start (postfix (marked m e)) cells' t'
marked_adds m e a d =
    record { same = d.same ∙ a.same; small = λ _. d.small; adds = λ ns h. d.adds ns e (lays_capped h) (a.adds ns h) }

-- the marks so far
pub record MarksSoFar (text : List ℕ) (from : ℕ) (cells : List ℕ) (start count : ℕ) (cells' : List ℕ) (p t : ℕ) : Type 0 where
  pub same : length cells' ≡ length cells
  pub reads : (c₀ : List ℕ) (at n : ℕ) → AtomRead Any text c₀ at n start (At from count) cells → AtomRead Any text c₀ at n start (At p t) cells'

module _ (text : List ℕ) (from : ℕ) (cells : List ℕ) (start count : ℕ) where
  pub marks_first : MarksSoFar text from cells start count cells from count
  marks_first = record { same = refl; reads = λ c₀ at n a. a }

  module _ (cells' : List ℕ) (p t : ℕ) (s : MarksSoFar text from cells start count cells' p t) where
    more_reads : (c₀ : List ℕ) (begun n : ℕ) (cells'' : List ℕ) (t'' : ℕ) (f : Frame) (fs : List Frame) → p < length text → marking (byte_at text p) ≡ true
        → Marked (mark_of (byte_at text p)) cells' start t cells'' t'' → Reads text c₀ begun start (at plain f fs n) (Item f fs n) Any (At p t) cells'
        → Reads text c₀ begun start (at plain f fs n) (Item f fs n) Any (At (p + 1) t'') cells''
    more_reads c₀ begun n cells'' t'' f fs l m d (reads e u g placed x a) =
        reads (marked (mark_of (byte_at text p)) e) (at plain (put (marked (mark_of (byte_at text p)) e) f) fs n)
        (goes_then g (goes_one text p (byte_at text p) (at plain (put e f) fs n) (at plain (put (marked (mark_of (byte_at text p)) e) f) fs n) l refl
        (mark_step (byte_at text p) e f fs n m))) placed tt (marked_adds (mark_of (byte_at text p)) e a d)

    pub marks_more : (cells'' : List ℕ) (t'' c : ℕ) → p < length text → c ≡ byte_at text p → true ≡ marking c → Marked (mark_of c) cells' start t cells'' t''
        → MarksSoFar text from cells start count cells'' (p + 1) t''
    marks_more cells'' t'' c l e m d =
        let m' : marking (byte_at text p) ≡ true = sym (m ∙ ap marking e) in
        let d' = subst (λ (x : ℕ). Marked (mark_of x) cells' start t cells'' t'') e d in
        record {
          same = d.same ∙ s.same;
          reads = λ c₀ begun n a.
              let b = s.reads c₀ begun n a in
              record {
                same = d.same ∙ b.same;
                within = ahead (p + 1) (omega (arith, (at_of b.within).0)) (omega arith);
                reads = λ f fs z. more_reads c₀ begun n cells'' t'' f fs l m' d' (b.reads f fs z);
              };
        }

    done_reads : {c₀ : List ℕ} {begun n : ℕ} {f : Frame} {fs : List Frame} → marking (byte_at text p) ≡ false
        → Reads text c₀ begun start (at plain f fs n) (Item f fs n) Any (At p t) cells' → Reads text c₀ begun start (at plain f fs n) (Item f fs n) NoMark (At p t) cells'
    done_reads m (reads e u g i x a) = reads e u g i m a

    pub marks_done : (c : ℕ) → c ≡ byte_at text p → false ≡ marking c → MarksRead text from cells start count (p, t) cells'
    marks_done c e m =
        record {
          same = s.same;
          reads = λ c₀ begun n a.
              let b = s.reads c₀ begun n a in
              record { same = b.same; within = b.within; reads = λ f fs z. done_reads (sym (m ∙ ap marking e)) (b.reads f fs z) };
        }

    pub marks_end : length text ≤ p → (from ≤ length text → p ≤ length text) → MarksRead text from cells start count (length text, t) cells'
    marks_end h k =
        let d = marks_done (byte_at text p) refl (sym (end_marks text p h)) in
        record {
          same = s.same;
          reads = λ c₀ begun n a.
              let e : p ≡ length text = omega (arith, k (at_of a.within).1) in
              subst (λ (q : ℕ). AtomRead NoMark text c₀ begun n start (At q t) cells') e (d.reads c₀ begun n a);
        }

-- ---- the parenthesis after a choice

-- what is left where neither a mark nor an atom, a bar or a closing parenthesis stands
key_other : (c : ℕ) → marking c ≡ false → starting c ≡ false → (c ≡ 124 → ⊥) → (c ≡ 41 → ⊥) → key c ≡ other
key_other c m s b z = late_key c s (λ (k : Key). k ≡ other) (λ y. absurd (z y)) (λ y. absurd (b y)) (λ y. absurd (no_both (sym y ∙ m))) refl

shut_step : (b r : Option Exp) (l : Exp) (f : Frame) (fs : List Frame) (n : ℕ)
    → step (at plain (held b r l) (f ∷ fs) n) 41 ≡ go (at plain (put (made b r l) f) fs (suc n))
unfolding step key bare between by_key shut shut_in
shut_step b r l f fs n = refl

end_step : (c : ℕ) (f : Frame) (fs : List Frame) (n : ℕ) → marking c ≡ false → starting c ≡ false → (c ≡ 124 → ⊥) → (c ≡ 41 → ⊥)
    → step (at plain f fs n) c ≡ wrong
unfolding step by_key key
end_step c f fs n m s b z = rw (key_other c m s b z) refl

module _ (text : List ℕ) where
  pub shut_wrong : (w : Wrong) → ShutRead text (Err w) (Err w)
  shut_wrong w = record { within = λ p h. h; reads = λ cells cells' p top n s f fs a. still_wrong cells' a }

  module _ (p t : ℕ) where
    there_reads : (cells cells' : List ℕ) (from top n : ℕ) (s : State) (f : Frame) (fs : List Frame) → byte_at text p ≡ 41 → p < length text
        → Reads text cells from top s (Chosen (f ∷ fs) n) Ends (At p t) cells' → Reads text cells from top s (Item f fs (suc n)) Any (At (p + 1) t) cells'
    there_reads cells cells' from top n s f fs c l (reads e u g (chosen {b = b} {r = r} {l = i}) x a) =
        reads e (at plain (put e f) fs (suc n))
        (goes_then g (goes_one text p 41 (at plain (held b r i) (f ∷ fs) n) (at plain (put e f) fs (suc n)) l c (shut_step b r i f fs n))) placed tt a

    pub shut_there : (c : ℕ) → c ≡ byte_at text p → c ≡ 41 → ShutRead text (At p t) (At (p + 1) t)
    shut_there c e k =
        let l = byte_there text p (λ y. omega arith) in
        record {
          within = λ from h. ahead (p + 1) (omega (arith, (at_of h).0)) (omega arith);
          reads = λ cells cells' from top n s f fs a. there_reads cells cells' from top n s f fs (sym e ∙ k) l a;
        }

    missing_reads : (cells cells' : List ℕ) (from top n : ℕ) (s : State) (f : Frame) (fs : List Frame) → (byte_at text p ≡ 41 → ⊥)
        → Reads text cells from top s (Chosen (f ∷ fs) n) Ends (At p t) cells' → Reads text cells from top s (Item f fs (suc n)) Any (wrong_at p) cells'
    unfolding ended
    missing_reads cells cells' from top n s f fs c (reads e u g (chosen {b = b} {r = r} {l = i}) x a) =
        stops (at plain (held b r i) (f ∷ fs) n) g
        (record { no_step = λ _. end_step (byte_at text p) (held b r i) (f ∷ fs) n x.0 x.1 x.2 c; no_end = λ _ _. refl })

    pub shut_missing : (c : ℕ) → c ≡ byte_at text p → (c ≡ 41 → ⊥) → ShutRead text (At p t) (wrong_at p)
    shut_missing c e k =
        record {
          within = λ from h. not_back p (omega (arith, (at_of h).0)) (at_of h).1;
          reads = λ cells cells' from top n s f fs a. missing_reads cells cells' from top n s f fs (λ y. k (e ∙ y)) a;
        }

-- ---- loops: what was read before the first turn goes on as what is read so far

pub record SoFar (P : List ℕ → ℕ → ℕ → Read → List ℕ → Type 0) (c₁ : List ℕ) (from count : ℕ) (cells : List ℕ) (p t : ℕ) : Type 0 where
  pub same : length cells ≡ length c₁
  pub started : from ≤ p
  pub reads : (c : List ℕ) (at top : ℕ) → P c at top (At from count) c₁ → P c at top (At p t) cells

pub so_far_none : (P : List ℕ → ℕ → ℕ → Read → List ℕ → Type 0) (c₁ : List ℕ) (from count : ℕ) → SoFar P c₁ from count c₁ from count
so_far_none P c₁ from count = record { same = refl; started = omega arith; reads = λ c at top a. a }

-- ---- a sequence

cat_adds : {c₀ c₁ c₂ c₃ : List ℕ} {t₀ t₁ t₂ t₃ : ℕ} (a b : Exp) → Adds c₀ t₀ (postfix a) c₁ t₁ → Adds c₁ t₁ (postfix b) c₂ t₂ → Adds c₂ t₂ (Cat ∷ []) c₃ t₃
    → Adds c₀ t₀ (postfix (cat a b)) c₃ t₃
unfolding postfix
cat_adds a b x y z = adds_then x (adds_then y z)

alt_adds : {c₀ c₁ c₂ c₃ : List ℕ} {t₀ t₁ t₂ t₃ : ℕ} (a b : Exp) → Adds c₀ t₀ (postfix a) c₁ t₁ → Adds c₁ t₁ (postfix b) c₂ t₂ → Adds c₂ t₂ (Alt ∷ []) c₃ t₃
    → Adds c₀ t₀ (postfix (alt a b)) c₃ t₃
unfolding postfix
alt_adds a b x y z = adds_then x (adds_then y z)

module _ (text cells : List ℕ) (p n top : ℕ) where
  row_first : {q t : ℕ} {c₁ : List ℕ} {N : ℕ → Type 0} (b : Option Exp) (fs : List Frame)
      → Reads text cells p top (at plain (bared b) fs n) (Item (bared b) fs n) N (At q t) c₁ → Reads text cells p top (at plain (bared b) fs n) (Row b fs n) N (At q t) c₁
  row_first b fs (reads e u g placed x a) = reads e u g in_row x a

  pub sequence_first : {q t : ℕ} {c₁ : List ℕ} → AtomRead NoMark text cells p n top (At q t) c₁ → SequenceRead NoMark text cells p n top (At q t) c₁
  sequence_first a = record { same = a.same; within = a.within; reads = λ b fs d. row_first b fs (a.reads (bared b) fs d) }

  pub sequence_wrong : {q : ℕ} {c₁ : List ℕ} → AtomRead Any text cells p n top (wrong_at q) c₁ → SequenceRead Breaks text cells p n top (wrong_at q) c₁
  sequence_wrong {c₁ = c₁} a = record { same = a.same; within = a.within; reads = λ b fs d. still_wrong c₁ (a.reads (bared b) fs d) }

  module _ (q t : ℕ) (c₁ : List ℕ) (a : SequenceRead NoMark text cells p n top (At q t) c₁) where
    row_more : (q' t' t'' : ℕ) (c₂ c₃ : List ℕ) (b : Option Exp) (fs : List Frame) → starting (byte_at text q) ≡ true
        → AtomRead NoMark text c₁ q n t (At q' t') c₂ → Adds c₂ t' (Cat ∷ []) c₃ t''
        → Reads text cells p top (at plain (bared b) fs n) (Row b fs n) NoMark (At q t) c₁
        → Reads text cells p top (at plain (bared b) fs n) (Row b fs n) NoMark (At q' t'') c₃
    unfolding postfix
    row_more q' t' t'' c₂ c₃ b fs s m d (reads e u g (in_row {r} {l}) x i) = by_next (m.reads (held b r l) fs (goes_on s))
      where
        by_next : Reads text c₁ q t (at plain (held b r l) fs n) (Item (held b r l) fs n) NoMark (At q' t') c₂
            → Reads text cells p top (at plain (bared b) fs n) (Row b fs n) NoMark (At q' t'') c₃
        by_next (reads e₂ u₂ g₂ placed x₂ i₂) =
            reads (cat (cat_on r l) e₂) (at plain (held b (some (cat_on r l)) e₂) fs n) (goes_then g g₂) in_row x₂ (cat_adds e e₂ i i₂ d)

    pub sequence_more : (q' t' t'' : ℕ) (c₂ c₃ : List ℕ) (c : ℕ) → c ≡ byte_at text q → true ≡ starting c → AtomRead NoMark text c₁ q n t (At q' t') c₂
        → AddsCell c₂ t' 3 c₃ t'' → SequenceRead NoMark text cells p n top (At q' t'') c₃
    sequence_more q' t' t'' c₂ c₃ c e s m d =
        record {
          same = d.same ∙ m.same ∙ a.same;
          within = recounted t'' (further (omega (arith, (at_of a.within).0)) m.within);
          reads = λ b fs z. row_more q' t' t'' c₂ c₃ b fs (sym (s ∙ ap starting e)) m (adds_node Cat refl d) (a.reads b fs z);
        }

    row_wrong : (q' : ℕ) (c₂ : List ℕ) (b : Option Exp) (fs : List Frame) → starting (byte_at text q) ≡ true → AtomRead Any text c₁ q n t (wrong_at q') c₂
        → Reads text cells p top (at plain (bared b) fs n) (Row b fs n) NoMark (At q t) c₁
        → Reads text cells p top (at plain (bared b) fs n) (Row b fs n) Breaks (wrong_at q') c₂
    row_wrong q' c₂ b fs s m (reads e u g (in_row {r} {l}) x i) = by_next (m.reads (held b r l) fs (goes_on s))
      where
        by_next : Reads text c₁ q t (at plain (held b r l) fs n) (Item (held b r l) fs n) Any (wrong_at q') c₂
            → Reads text cells p top (at plain (bared b) fs n) (Row b fs n) Breaks (wrong_at q') c₂
        by_next (stops u₂ g₂ h) = stops u₂ (goes_then g g₂) h

    pub sequence_more_wrong : (q' : ℕ) (c₂ : List ℕ) (c : ℕ) → c ≡ byte_at text q → true ≡ starting c → AtomRead Any text c₁ q n t (wrong_at q') c₂
        → SequenceRead Breaks text cells p n top (wrong_at q') c₂
    sequence_more_wrong q' c₂ c e s m =
        record {
          same = m.same ∙ a.same;
          within = further (omega (arith, (at_of a.within).0)) m.within;
          reads = λ b fs z. row_wrong q' c₂ b fs (sym (s ∙ ap starting e)) m (a.reads b fs z);
        }

    row_done : {b : Option Exp} {fs : List Frame} → starting (byte_at text q) ≡ false
        → Reads text cells p top (at plain (bared b) fs n) (Row b fs n) NoMark (At q t) c₁
        → Reads text cells p top (at plain (bared b) fs n) (Row b fs n) Breaks (At q t) c₁
    row_done s (reads e u g i x d) = reads e u g i (x, s) d

    pub sequence_done : (c : ℕ) → c ≡ byte_at text q → false ≡ starting c → SequenceRead Breaks text cells p n top (At q t) c₁
    sequence_done c e s = record { same = a.same; within = a.within; reads = λ b fs z. row_done (sym (s ∙ ap starting e)) (a.reads b fs z) }

    pub sequence_end : length text ≤ q → SequenceRead Breaks text cells p n top (At q t) c₁
    sequence_end h = sequence_done (byte_at text q) refl (sym (end_starts text q h))

-- the sequence so far
abbrev pub Sequences : List ℕ → ℕ → List ℕ → ℕ → ℕ → Read → List ℕ → Type 0
Sequences text n c p top r cells = SequenceRead NoMark text c p n top r cells

pub sequence_on : {text c₁ cells c₂ c₃ : List ℕ} {n from count p t q u t' : ℕ} → SoFar (Sequences text n) c₁ from count cells p t
    → p < length text → (c : ℕ) → c ≡ byte_at text p → true ≡ starting c → AtomRead NoMark text cells p n t (At q u) c₂ → AddsCell c₂ u 3 c₃ t'
    → SoFar (Sequences text n) c₁ from count c₃ q t'
sequence_on {text} {cells = cells} {c₂ = c₂} {c₃ = c₃} {n = n} {p = p} {t = t} {q = q} {u = u} {t' = t'} s l c e k m d =
    record {
      same = d.same ∙ m.same ∙ s.same;
      started = omega (arith, s.started, (at_of m.within).0);
      reads = λ c₀ at top a. sequence_more text c₀ at n top p t cells (s.reads c₀ at top a) q u t' c₂ c₃ c e k m d;
    }

-- ---- a choice

bar_step : (b r : Option Exp) (l : Exp) (fs : List Frame) (n : ℕ) → step (at plain (held b r l) fs n) 124 ≡ go (at plain (bared (some (made b r l))) fs n)
unfolding step key bare between by_key barred
bar_step b r l fs n = refl

module _ (text cells : List ℕ) (p n top : ℕ) where
  choice_one : {q t : ℕ} {c₁ : List ℕ} (fs : List Frame) → Reads text cells p top (at plain (bared none) fs n) (Row none fs n) Breaks (At q t) c₁
      → Reads text cells p top (at plain (bared none) fs n) (Chosen fs n) Breaks (At q t) c₁
  choice_one fs (reads e u g in_row x a) = reads e u g chosen x a

  pub choice_first : {q t : ℕ} {c₁ : List ℕ} → SequenceRead Breaks text cells p n top (At q t) c₁ → ChoiceRead Breaks text cells p n top (At q t) c₁
  choice_first a = record { same = a.same; within = a.within; reads = λ fs d. choice_one fs (a.reads none fs d) }

  pub choice_wrong : {q : ℕ} {c₁ : List ℕ} → SequenceRead Breaks text cells p n top (wrong_at q) c₁ → ChoiceRead Ends text cells p n top (wrong_at q) c₁
  choice_wrong {c₁ = c₁} a = record { same = a.same; within = a.within; reads = λ fs d. still_wrong c₁ (a.reads none fs d) }

  module _ (q t : ℕ) (c₁ : List ℕ) (a : ChoiceRead Breaks text cells p n top (At q t) c₁) (l : q < length text) (z : byte_at text q ≡ 124) where
    goes_bar : {s : State} (b r : Option Exp) (i : Exp) (fs : List Frame) → Goes text p q s (at plain (held b r i) fs n)
        → Goes text p (q + 1) s (at plain (bared (some (made b r i))) fs n)
    goes_bar b r i fs g =
        goes_then g (goes_one text q 124 (at plain (held b r i) fs n) (at plain (bared (some (made b r i))) fs n) l z (bar_step b r i fs n))

    choice_on : (q' t' t'' : ℕ) (c₂ c₃ : List ℕ) (fs : List Frame) → SequenceRead Breaks text c₁ (q + 1) n t (At q' t') c₂ → Adds c₂ t' (Alt ∷ []) c₃ t''
        → Reads text cells p top (at plain (bared none) fs n) (Chosen fs n) Breaks (At q t) c₁
        → Reads text cells p top (at plain (bared none) fs n) (Chosen fs n) Breaks (At q' t'') c₃
    choice_on q' t' t'' c₂ c₃ fs m d (reads e u g (chosen {b = b} {r = r} {l = i}) x y) = by_next (m.reads (some (made b r i)) fs after_bar)
      where
        by_next : Reads text c₁ (q + 1) t (at plain (bared (some (made b r i))) fs n) (Row (some (made b r i)) fs n) Breaks (At q' t') c₂
            → Reads text cells p top (at plain (bared none) fs n) (Chosen fs n) Breaks (At q' t'') c₃
        by_next (reads e₂ u₂ g₂ in_row x₂ y₂) = reads (alt e e₂) u₂ (goes_then (goes_bar b r i fs g) g₂) chosen x₂ (alt_adds e e₂ y y₂ d)

    pub choice_more : (q' t' t'' : ℕ) (c₂ c₃ : List ℕ) → SequenceRead Breaks text c₁ (q + 1) n t (At q' t') c₂ → AddsCell c₂ t' 4 c₃ t''
        → ChoiceRead Breaks text cells p n top (At q' t'') c₃
    choice_more q' t' t'' c₂ c₃ m d =
        record {
          same = d.same ∙ m.same ∙ a.same;
          within = recounted t'' (further (omega (arith, (at_of a.within).0)) m.within);
          reads = λ fs k. choice_on q' t' t'' c₂ c₃ fs m (adds_node Alt refl d) (a.reads fs k);
        }

    choice_off : (q' : ℕ) (c₂ : List ℕ) (fs : List Frame) → SequenceRead Breaks text c₁ (q + 1) n t (wrong_at q') c₂
        → Reads text cells p top (at plain (bared none) fs n) (Chosen fs n) Breaks (At q t) c₁
        → Reads text cells p top (at plain (bared none) fs n) (Chosen fs n) Ends (wrong_at q') c₂
    choice_off q' c₂ fs m (reads e u g (chosen {b = b} {r = r} {l = i}) x y) = by_next (m.reads (some (made b r i)) fs after_bar)
      where
        by_next : Reads text c₁ (q + 1) t (at plain (bared (some (made b r i))) fs n) (Row (some (made b r i)) fs n) Breaks (wrong_at q') c₂
            → Reads text cells p top (at plain (bared none) fs n) (Chosen fs n) Ends (wrong_at q') c₂
        by_next (stops u₂ g₂ h) = stops u₂ (goes_then (goes_bar b r i fs g) g₂) h

    pub choice_more_wrong : (q' : ℕ) (c₂ : List ℕ) → SequenceRead Breaks text c₁ (q + 1) n t (wrong_at q') c₂ → ChoiceRead Ends text cells p n top (wrong_at q') c₂
    choice_more_wrong q' c₂ m =
        record {
          same = m.same ∙ a.same;
          within = further (omega (arith, (at_of a.within).0)) m.within;
          reads = λ fs k. choice_off q' c₂ fs m (a.reads fs k);
        }

  module _ (q t : ℕ) (c₁ : List ℕ) (a : ChoiceRead Breaks text cells p n top (At q t) c₁) where
    choice_stops : {fs : List Frame} → (byte_at text q ≡ 124 → ⊥) → Reads text cells p top (at plain (bared none) fs n) (Chosen fs n) Breaks (At q t) c₁
        → Reads text cells p top (at plain (bared none) fs n) (Chosen fs n) Ends (At q t) c₁
    choice_stops k (reads e u g i x d) = reads e u g i (x.0, x.1, k) d

    pub choice_done : (byte_at text q ≡ 124 → ⊥) → ChoiceRead Ends text cells p n top (At q t) c₁
    choice_done k = record { same = a.same; within = a.within; reads = λ fs z. choice_stops k (a.reads fs z) }

    pub choice_end : length text ≤ q → ChoiceRead Ends text cells p n top (At q t) c₁
    choice_end h = choice_done (end_bar text q h)

-- the choice so far
abbrev pub Choices : List ℕ → ℕ → List ℕ → ℕ → ℕ → Read → List ℕ → Type 0
Choices text n c p top r cells = ChoiceRead Breaks text c p n top r cells

pub choice_next : {text c₁ cells c₂ c₃ : List ℕ} {n from count p t q u t' : ℕ} → SoFar (Choices text n) c₁ from count cells p t
    → p < length text → byte_at text p ≡ 124 → SequenceRead Breaks text cells (p + 1) n t (At q u) c₂ → AddsCell c₂ u 4 c₃ t'
    → SoFar (Choices text n) c₁ from count c₃ q t'
choice_next {text} {cells = cells} {c₂ = c₂} {c₃ = c₃} {n = n} {p = p} {t = t} {q = q} {u = u} {t' = t'} s l z m d =
    record {
      same = d.same ∙ m.same ∙ s.same;
      started = omega (arith, s.started, (at_of m.within).0);
      reads = λ c₀ at top a. choice_more text c₀ at n top p t cells (s.reads c₀ at top a) l z q u t' c₂ c₃ m d;
    }

-- ---- an atom

open_step : (f : Frame) (fs : List Frame) (n : ℕ) → step (at plain f fs (suc n)) 40 ≡ go (at plain (bared none) (f ∷ fs) n)
unfolding step key bare between by_key opened
open_step f fs n = refl

no_room : (c : ℕ) (f : Frame) (fs : List Frame) → c ≡ 40 → step (at plain f fs 0) c ≡ wrong
unfolding step key bare between by_key opened
no_room c f fs e = rw e refl

empty_step : (f : Frame) (fs : List Frame) (n : ℕ) → step (at plain (bared none) (f ∷ fs) n) 41 ≡ go (at plain (put empty f) fs (suc n))
unfolding step key bare between by_key shut shut_in
empty_step f fs n = refl

-- a line does not end where a parenthesis stands
not_newline : (c : ℕ) → c ≡ 40 → c ≡ 10 → ⊥
not_newline c e h = omega arith

module _ (text : List ℕ) (p c : ℕ) (e : c ≡ byte_at text p) where
  pub atom_leaf : (cells cells' : List ℕ) (n top : ℕ) (r : Read) → (c ≡ 40 → ⊥) → LeafRead text cells p top r cells' → AtomRead Any text cells p n top r cells'
  atom_leaf cells cells' n top r k a =
      record { same = a.same; within = a.within; reads = λ f fs d. a.reads f fs n (λ z. k (e ∙ z)) d }

  module _ (z : c ≡ 40) where
    pub opened_there : p < length text
    opened_there = byte_there text p (λ y. omega arith)

    pub atom_deep : (cells : List ℕ) (n top : ℕ) → n ≡ 0 → AtomRead Any text cells p n top (wrong_at p) cells
    atom_deep cells n top k =
        rw k (record {
          same = refl;
          within = not_back p (omega arith) (omega (arith, opened_there));
          reads = λ f fs d. stops (at plain f fs 0) (goes_none text p (at plain f fs 0) (omega (arith, opened_there)))
              (record { no_step = λ _. no_room (byte_at text p) f fs (sym e ∙ z); no_end = λ _ y. absurd (not_newline (byte_at text p) (sym e ∙ z) y) });
        })

    goes_open : (f : Frame) (fs : List Frame) (m : ℕ) → Goes text p (p + 1) (at plain f fs (suc m)) (at plain (bared none) (f ∷ fs) m)
    goes_open f fs m = goes_one text p 40 (at plain f fs (suc m)) (at plain (bared none) (f ∷ fs) m) opened_there (sym e ∙ z) (open_step f fs m)

    pub shut_there_too : (x : ℕ) → x ≡ byte_at text (p + 1) → x ≡ 41 → p + 1 < length text
    shut_there_too x y k = byte_there text (p + 1) (λ v. omega arith)

    pub atom_empty : (cells cells' : List ℕ) (n m top top' x : ℕ) → n ≡ suc m → x ≡ byte_at text (p + 1) → x ≡ 41 → AddsCell cells top 1 cells' top'
        → AtomRead Any text cells p n top (At (p + 2) top') cells'
    unfolding postfix
    atom_empty cells cells' n m top top' x k y v a =
        let two : p + 1 + 1 ≡ p + 2 = omega arith in
        let l = shut_there_too x y v in
        rw k (record {
          same = a.same;
          within = ahead (p + 2) (omega arith) (omega arith);
          reads = λ f fs d. reads empty (at plain (put empty f) fs (suc m))
              (subst (λ (q : ℕ). Goes text p q (at plain f fs (suc m)) (at plain (put empty f) fs (suc m))) two
              (goes_then (goes_open f fs m) (goes_one text (p + 1) 41 (at plain (bared none) (f ∷ fs) m) (at plain (put empty f) fs (suc m)) l (sym y ∙ v)
              (empty_step f fs m)))) placed tt (adds_node Empty refl a);
        })

    pub atom_group : (cells cells' : List ℕ) (n m top x : ℕ) (inner r : Read) → n ≡ suc m → x ≡ byte_at text (p + 1) → (x ≡ 41 → ⊥)
        → ChoiceRead Ends text cells (p + 1) m top inner cells' → ShutRead text inner r → AtomRead Any text cells p n top r cells'
    atom_group cells cells' n m top x inner r k y v a s =
        rw k (record {
          same = a.same;
          within = further (omega arith) (s.within (p + 1) a.within);
          reads = λ f fs d. s.reads cells cells' p top m (at plain f fs (suc m)) f fs
              (reads_after (goes_open f fs m) (a.reads (f ∷ fs) (not_shut (λ w. v (y ∙ w)))));
        })
