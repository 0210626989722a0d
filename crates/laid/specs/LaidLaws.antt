-- Laws of laying, each as the code asks it: one cell with room and without, a part once more, the marks.
-- A law of one cell is stated of the cell; laws of nodes follow from it.
use Rattle.std.specs.Prelude.{ℕ, suc, ◌+◌, ◌-◌, ◌<◌, ◌≤◌, ◌≡◌, length, get_or, take, set}
use Rattle.std.proofs.Common.{arith, add-one, sym, ap, subst, ◌∙◌, length-append, length-set, take-suc-set, take-suc, take_all, get_or-append-add, get_or-take}
use Rattle.std.proofs.Math.Path.{refl}
use mathlib.Core.List.{List, [], ◌∷◌, ◌++◌, map, append_assoc, append-nil}
use borrow.Author.Tests.{ne_eqb}
use Rattle.std.proofs.Math.ListN.{get_or-append, get_or-map}
use Rattle.number.specs.Limits.{nodes}
use Rattle.book.specs.declared.Node.{Node}
use Rattle.book.specs.declared.Node.TheVariants.{Nothing, Empty, Cat, Alt, Star}
use Rattle.typed.specs.Exp.{postfix}
use Rattle.laid.specs.Laid.{pack, Capped, Lays, AddsCell, Adds, Again, mark_of, Marked}
use Rattle.laid.specs.Laid.Capped.{fits, over}
use Rattle.laid.specs.Laid.Lays.{lies, lost}

pub lays_as : {cells : List ℕ} {top : ℕ} {ms ns : List Node} → ms ≡ ns → Lays cells top ms → Lays cells top ns
lays_as {cells} {top} e h = subst (λ (l : List Node). Lays cells top l) e h

-- what lies has its count
pub lays_capped : {cells : List ℕ} {top : ℕ} {ns : List Node} → Lays cells top ns → Capped nodes top (length ns)
lays_capped {top = top} (lies h k t) = subst (λ (n : ℕ). Capped nodes top n) (sym k) (fits h)
lays_capped (lost h) = over h

map_more : (ns : List Node) (n : Node) → map pack ns ++ (pack n ∷ []) ≡ map pack (ns ++ (n ∷ []))
map_more [] n = refl
map_more (m ∷ ns) n = ap (λ (l : List ℕ). pack m ∷ l) (map_more ns n)

longer : (ns : List Node) (n : Node) → nodes < length ns → nodes < length (ns ++ (n ∷ []))
longer ns n h = omega (arith, length-append ns (n ∷ []))

-- ---- one cell, with room and without

room_lays : (cells : List ℕ) (top : ℕ) (n : Node) (ns : List Node) → length cells ≡ nodes → top < nodes → Lays cells top ns
    → Lays (set cells top (pack n)) (top + 1) (ns ++ (n ∷ []))
room_lays cells top n ns e l (lies h k t) =
    let room : top + 1 ≤ nodes = omega arith in
    lies room (length-append ns (n ∷ []) ∙ ap (λ (m : ℕ). m + 1) k)
    (ap (λ (m : ℕ). take m (set cells top (pack n))) (add-one top) ∙ take-suc-set cells top (pack n) (omega arith)
    ∙ ap (λ (l : List ℕ). l ++ (pack n ∷ [])) t ∙ map_more ns n)
room_lays cells top n ns e l (lost h) = absurd (omega arith)

room_lost : (cells : List ℕ) (top x : ℕ) (n : Node) (ns : List Node) → top < nodes → nodes < length ns → Lays cells top ns
    → Lays (set cells top x) (top + 1) (ns ++ (n ∷ []))
room_lost cells top x n ns l m (lies h k t) = absurd (omega arith)
room_lost cells top x n ns l m (lost h) = absurd (omega arith)

pub adds_room : (cells : List ℕ) (top x : ℕ) → length cells ≡ nodes → top < nodes → AddsCell cells top x (set cells top x) (top + 1)
adds_room cells top x e l =
    record {
      same = length-set cells top x;
      small = omega arith;
      adds = λ n ns z h. subst (λ (y : ℕ). Lays (set cells top y) (top + 1) (ns ++ (n ∷ []))) (sym z) (room_lays cells top n ns e l h);
      stays_lost = λ n ns z h. room_lost cells top x n ns l z h;
    }

over_lays : (cells : List ℕ) (top : ℕ) (n : Node) (ns : List Node) → nodes ≤ top → Lays cells top ns → Lays cells (nodes + 1) (ns ++ (n ∷ []))
over_lays cells top n ns l (lies h k t) = lost (let z : nodes < length (ns ++ (n ∷ [])) = omega (arith, length-append ns (n ∷ [])) in z)
over_lays cells top n ns l (lost h) = lost (longer ns n h)

pub adds_over : (cells : List ℕ) (top x : ℕ) → nodes ≤ top → AddsCell cells top x cells (nodes + 1)
adds_over cells top x l =
    record {
      same = refl;
      small = omega arith;
      adds = λ n ns z h. over_lays cells top n ns l h;
      stays_lost = λ n ns z h. over_lays cells top n ns l h;
    }

-- ---- nodes

pub adds_node : {cells : List ℕ} {top x : ℕ} {cells' : List ℕ} {top' : ℕ} (n : Node) → x ≡ pack n → AddsCell cells top x cells' top'
    → Adds cells top (n ∷ []) cells' top'
adds_node n e a = record { same = a.same; small = λ _. a.small; adds = λ ns h. a.adds n ns e h }

pub adds_none : (cells : List ℕ) (top : ℕ) → Adds cells top [] cells top
adds_none cells top = record { same = refl; small = λ h. h; adds = λ ns h. lays_as (sym (append-nil ns)) h }

pub adds_then : {c₀ c₁ c₂ : List ℕ} {t₀ t₁ t₂ : ℕ} {ms ns : List Node} → Adds c₀ t₀ ms c₁ t₁ → Adds c₁ t₁ ns c₂ t₂ → Adds c₀ t₀ (ms ++ ns) c₂ t₂
adds_then {ms = ms} {ns = ns} a b =
    record {
      same = b.same ∙ a.same;
      small = λ h. b.small (a.small h);
      adds = λ ks h. lays_as (append_assoc ks ms ns) (b.adds (ks ++ ms) (a.adds ks h));
    }

pub adds_as : {cells : List ℕ} {top : ℕ} {ms ns : List Node} {cells' : List ℕ} {top' : ℕ} → ms ≡ ns → Adds cells top ms cells' top'
    → Adds cells top ns cells' top'
adds_as {cells} {top} {cells' = cells'} {top' = top'} e a = subst (λ (l : List Node). Adds cells top l cells' top') e a

-- ---- some nodes again: so far, up to i

pub record Redone (cells : List ℕ) (start top : ℕ) (cells' : List ℕ) (t i : ℕ) : Type 0 where
  pub same : length cells' ≡ length cells
  pub from : start ≤ i
  pub adds : (ms ns : List Node) → Capped nodes start (length ms) → Lays cells top (ms ++ ns) → Lays cells' t ((ms ++ ns) ++ take (i - start) ns)

-- the cell that is read holds the next node
same_next : (cells : List ℕ) (ms ns : List Node) (t i start : ℕ) → start ≡ length ms → start ≤ i → i < length (ms ++ ns)
    → length ((ms ++ ns) ++ take (i - start) ns) ≡ t → take t cells ≡ map pack ((ms ++ ns) ++ take (i - start) ns)
    → get_or cells i 0 ≡ pack (get_or ns (i - start) Nothing)
same_next cells ms ns t i start a f l k e =
    sym (get_or-take t cells i 0 (omega (arith, length-append (ms ++ ns) (take (i - start) ns))))
    ∙ ap (λ (w : List ℕ). get_or w i 0) e
    ∙ get_or-map pack ((ms ++ ns) ++ take (i - start) ns) i Nothing
    ∙ ap pack (get_or-append (ms ++ ns) (take (i - start) ns) Nothing i l
    ∙ ap (λ (j : ℕ). get_or (ms ++ ns) j Nothing) (omega arith)
    ∙ get_or-append-add ms ns (i - start) Nothing)

one_more : (ms ns : List Node) (i start : ℕ) → start ≡ length ms → start ≤ i → i < length (ms ++ ns)
    → ((ms ++ ns) ++ take (i - start) ns) ++ (get_or ns (i - start) Nothing ∷ []) ≡ (ms ++ ns) ++ take (i + 1 - start) ns
one_more ms ns i start a f l =
    let j : suc (i - start) ≡ i + 1 - start = omega arith in
    append_assoc (ms ++ ns) (take (i - start) ns) (get_or ns (i - start) Nothing ∷ [])
    ∙ ap ((ms ++ ns) ++◌) (sym (take-suc ns (i - start) Nothing (omega (arith, length-append ms ns))) ∙ ap (λ (j : ℕ). take j ns) j)

redone_lays : (cells cells' : List ℕ) (ms ns : List Node) (t t' i start : ℕ) → start ≡ length ms → start ≤ i → i < length (ms ++ ns)
    → AddsCell cells t (get_or cells i 0) cells' t' → Lays cells t ((ms ++ ns) ++ take (i - start) ns)
    → Lays cells' t' ((ms ++ ns) ++ take (i + 1 - start) ns)
redone_lays cells cells' ms ns t t' i start a f l d (lies h k e) =
    lays_as (one_more ms ns i start a f l)
    (d.adds (get_or ns (i - start) Nothing) ((ms ++ ns) ++ take (i - start) ns) (same_next cells ms ns t i start a f l k e) (lies h k e))
redone_lays cells cells' ms ns t t' i start a f l d (lost h) =
    lays_as (one_more ms ns i start a f l) (d.stays_lost (get_or ns (i - start) Nothing) ((ms ++ ns) ++ take (i - start) ns) h (lost h))

-- the premises, where the nodes fit
starts_at : (ms ns : List Node) (cells : List ℕ) (start top : ℕ) → top ≤ nodes → Capped nodes start (length ms) → Lays cells top (ms ++ ns)
    → (start ≡ length ms) × (length (ms ++ ns) ≡ top)
starts_at ms ns cells start top l (fits h) (lies g k e) = (refl, k)
starts_at ms ns cells start top l (over h) (lies g k e) = absurd (omega (arith, length-append ms ns))
starts_at ms ns cells start top l c (lost h) = absurd (omega arith)

none_yet : (start : ℕ) (ms ns : List Node) → ms ++ ns ≡ (ms ++ ns) ++ take (start - start) ns
none_yet start ms ns =
    let z : start - start ≡ 0 = omega arith in
    sym (ap (λ (j : ℕ). (ms ++ ns) ++ take j ns) z ∙ append-nil (ms ++ ns))

again_lost : (cells : List ℕ) (top : ℕ) (ms ns : List Node) → nodes < top → Lays cells top (ms ++ ns) → Lays cells top ((ms ++ ns) ++ ns)
again_lost cells top ms ns l (lies h k e) = absurd (omega arith)
again_lost cells top ms ns l (lost h) = lost (let z : nodes < length ((ms ++ ns) ++ ns) = omega (arith, length-append (ms ++ ns) ns) in z)

module _ (cells : List ℕ) (start top : ℕ) where
  pub redone_none : Redone cells start top cells top start
  redone_none = record { same = refl; from = omega arith; adds = λ ms ns c h. lays_as (none_yet start ms ns) h }

  pub redone_more : (cells' cells'' : List ℕ) (t t'' i : ℕ) → top ≤ nodes → i < top → Redone cells start top cells' t i
      → AddsCell cells' t (get_or cells' i 0) cells'' t'' → Redone cells start top cells'' t'' (i + 1)
  redone_more cells' cells'' t t'' i l m r d =
      record {
        same = d.same ∙ r.same;
        from = omega (arith, r.from);
        adds = λ ms ns c h.
            let s = starts_at ms ns cells start top l c h in
            redone_lays cells' cells'' ms ns t t'' i start s.0 r.from (omega (arith, s.1)) d (r.adds ms ns c h);
      }

  pub redone_all : (cells' : List ℕ) (t i : ℕ) → top ≤ nodes → top ≤ i → Redone cells start top cells' t i → Again cells start top cells' t
  redone_all cells' t i l m r =
      record {
        same = r.same;
        adds = λ ms ns c h.
            let s = starts_at ms ns cells start top l c h in
            lays_as (ap ((ms ++ ns) ++◌) (take_all (i - start) ns (omega (arith, s.0, s.1, length-append ms ns)))) (r.adds ms ns c h);
      }

  pub again_over : nodes < top → Again cells start top cells top
  again_over l = record { same = refl; adds = λ ms ns c h. again_lost cells top ms ns l h }

-- ---- marks

-- ((ks ++ ms) ++ ns) ++ xs
regroup : (ks ms ns xs : List Node) → ((ks ++ ms) ++ ns) ++ xs ≡ ks ++ (ms ++ (ns ++ xs))
regroup ks ms ns xs = append_assoc (ks ++ ms) ns xs ∙ append_assoc ks ms (ns ++ xs)

module _ (cells : List ℕ) (start top c : ℕ) where
  pub marked_star : (cells' : List ℕ) (top' : ℕ) → c ≡ 42 → AddsCell cells top 5 cells' top' → Marked (mark_of c) cells start top cells' top'
  unfolding postfix
  marked_star cells' top' z a =
      record {
        same = a.same;
        small = a.small;
        adds = λ ns e k l. rw z (lays_as (append_assoc ns (postfix e) (Star ∷ [])) (a.adds Star _ refl l));
      }

  pub marked_plus : (c₁ c₂ cells' : List ℕ) (t u top' : ℕ) → c ≡ 43 → Again cells start top c₁ t → AddsCell c₁ t 5 c₂ u → AddsCell c₂ u 3 cells' top'
      → Marked (mark_of c) cells start top cells' top'
  unfolding postfix
  marked_plus c₁ c₂ cells' t u top' z g a d =
      record {
        same = d.same ∙ a.same ∙ g.same;
        small = d.small;
        adds = λ ns e k l. rw z (lays_as
            (append_assoc ((ns ++ postfix e) ++ postfix e) (Star ∷ []) (Cat ∷ []) ∙ regroup ns (postfix e) (postfix e) (Star ∷ Cat ∷ []))
            (d.adds Cat _ refl (a.adds Star _ refl (g.adds ns (postfix e) k l))));
      }

  pub marked_maybe : (c₁ cells' : List ℕ) (t top' : ℕ) → (c ≡ 42 → ⊥) → (c ≡ 43 → ⊥) → AddsCell cells top 1 c₁ t → AddsCell c₁ t 4 cells' top'
      → Marked (mark_of c) cells start top cells' top'
  unfolding postfix
  marked_maybe c₁ cells' t top' y z a d =
      record {
        same = d.same ∙ a.same;
        small = d.small;
        adds = λ ns e k l. rw (ne_eqb c 42 y, ne_eqb c 43 z) (lays_as
            (append_assoc (ns ++ postfix e) (Empty ∷ []) (Alt ∷ []) ∙ append_assoc ns (postfix e) (Empty ∷ Alt ∷ []))
            (d.adds Alt _ refl (a.adds Empty _ refl l)));
      }
