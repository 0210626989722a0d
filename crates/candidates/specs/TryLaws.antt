-- Trying every byte at a place: what one try tells, and what the flags of all 256 say in the end.
-- The tried bytes are those before the place and one more; only that one changes from try to try.
use Rattle.std.specs.Prelude.{ℕ, suc, ◌+◌, ◌-◌, ◌≤◌, ◌<◌, ◌≡◌, refl, Bool, true, false, not, cond, List, [], ◌∷◌, ◌++◌, length, take, drop, set, replicate}
use Rattle.std.proofs.Common.{arith, sym, ap, subst, ◌∙◌, length-append, length-set, take-suc-set, length-take-le, get_or-set_same, get_or-set_other, eq-eqb, ne_eqb, le-ltb}
use Rattle.std.proofs.Math.Decide.{dec_lt}
use Rattle.std.proofs.lemmas.List.{length-replicate, take-set-le}
use Rattle.number.specs.declared.Refusal.{Refusal}
use Rattle.number.specs.declared.Refusal.TheVariants.{Short, Number, Range, Stack, Tail, Long, Pool, States, Runs, Loaded, Room, Pairs, Input, Typed, Padded}
use Rattle.number.specs.Limits.{bytes, typed_area}
use Rattle.number.specs.Refused.{Outcome}
use Rattle.number.specs.Refused.Outcome.{gives, refuses}
use Rattle.number.specs.Lists.{Writes, take_written}
use Rattle.typed.specs.Calls.{book_bytes, put_book, type_of}
use Rattle.advised.specs.Advice.{wrong_at, could_stand, tested_line}
use Rattle.candidates.specs.Promises.{flagged, could_end, TriedTo, Tried}
use Rattle.candidates.specs.RunLaws.{tested_alike}

-- one byte, tried at place p
could_stand_lem : (before : List ℕ) (c : ℕ) → could_end (before ++ (c ∷ [])) ≡ could_stand before c
unfolding could_stand could_end
could_stand_lem before c =
    let l : length (before ++ (c ∷ [])) - 1 ≡ length before = omega (arith, length-append before (c ∷ [])) in
    ap (λ n. not (wrong_at n (book_bytes (before ++ (c ∷ []))))) l

-- the loop so far: what is before the place stays, and every flag below c tells
pub record Trying (p : ℕ) (tried₀ : List ℕ) (found₀ : List Bool) (tried : List ℕ) (found : List Bool) (c : ℕ) : Type 0 where
  pub front : take p tried ≡ take p tried₀
  pub long : length tried ≡ length tried₀
  pub wide : length found ≡ length found₀
  pub flags : TriedTo c (take p tried₀) found

pub trying_none : (p : ℕ) (tried : List ℕ) (found : List Bool) → Trying p tried found tried found 0
trying_none p tried found = record { front = refl; long = refl; wide = refl; flags = record { tells = λ i h. absurd (omega arith) } }

flags_more : (c : ℕ) (flag : Bool) (before : List ℕ) (found : List Bool) → c < length found → flag ≡ could_end (before ++ (c ∷ [])) → TriedTo c before found
    → TriedTo (c + 1) before (set found c flag)
unfolding flagged
flags_more c flag before found g e t =
    record {
      tells = λ i l. elim (dec_lt i c) [
        | yes a ↦ get_or-set_other found c i flag false (λ z. omega arith) ∙ t.tells i a
        | no b ↦ this i (omega arith)
      ];
    }
  where
    this : (i : ℕ) → i ≡ c → flagged (set found c flag) i ≡ could_stand before i
    this i d =
        subst (λ x. flagged (set found c flag) x ≡ could_stand before x) (sym d)
        (get_or-set_same found c flag false g ∙ e ∙ could_stand_lem before c)

pub trying_more : (p c : ℕ) (flag : Bool) (tried₀ : List ℕ) (found₀ : List Bool) (tried : List ℕ) (found : List Bool) → p < length tried₀ → c < length found₀
    → flag ≡ could_end (take (p + 1) (set tried p c)) → Trying p tried₀ found₀ tried found c
    → Trying p tried₀ found₀ (set tried p c) (set found c flag) (c + 1)
trying_more p c flag tried₀ found₀ tried found h g e t =
    record {
      front = take-set-le p tried p c (omega arith) ∙ t.front;
      long = length-set tried p c ∙ t.long;
      wide = length-set found c flag ∙ t.wide;
      flags = flags_more c flag (take p tried₀) found (omega (arith, t.wide)) (e ∙ ap could_end front) t.flags;
    }
  where
    suc_p : p + 1 ≡ suc p
    suc_p = omega arith

    front : take (p + 1) (set tried p c) ≡ take p tried₀ ++ (c ∷ [])
    front =
        ap (λ n. take n (set tried p c)) suc_p ∙ take-suc-set tried p c (omega (arith, t.long)) ∙
        ap (λ w. w ++ (c ∷ [])) t.front

pub trying_all : (p : ℕ) (tried₀ : List ℕ) (found₀ : List Bool) (tried : List ℕ) (found : List Bool) (c : ℕ) → bytes ≤ c → Trying p tried₀ found₀ tried found c
    → Tried (take p tried₀) found
trying_all p tried₀ found₀ tried found c h t = record { tells = λ i l. t.flags.tells i (omega arith) }

-- ---- the whole: the bytes before the place are copied, and the flags are shown

pub copied : (text tried tried' : List ℕ) (p next : ℕ) → p ≤ length text → Writes (take (p - 0) (drop 0 text)) tried tried' 0 next
    → take p tried' ≡ take p text
copied text tried tried' p next h a =
    ap (λ n. take n tried') long ∙ ap (take (0 + length (take (p - 0) (drop 0 text)))) a.out ∙
    take_written tried 0 (take (p - 0) (drop 0 text)) (omega arith) ∙ ap (λ n. take n text) none
  where
    none : p - 0 ≡ p
    none = omega arith

    long : p ≡ 0 + length (take (p - 0) (drop 0 text))
    long = omega (arith, length-take-le (p - 0) text (omega arith))

pub tried_line : (text tried : List ℕ) (found : List Bool) (p : ℕ) → take p tried ≡ take p text → Tried (take p tried) found
    → tested_line (flagged found) ≡ tested_line (could_stand (take p text))
tried_line text tried found p e t =
    tested_alike (flagged found) (could_stand (take p text)) (λ i h. t.tells i h ∙ ap (λ w. could_stand w i) e)

-- ---- one try: what the answer of type_rules says of the last byte

-- a refusal is not that of a byte at p
unfoldable pub elsewhere : ℕ → Refusal → Bool
elsewhere p r = not (wrong_at p (refuses r))

other_there : (p : ℕ) (r : Refusal) → (r ≡ Typed p → ⊥) → elsewhere p r ≡ true
unfolding elsewhere
other_there p (Short q) n = refl
other_there p (Number q) n = refl
other_there p (Range q) n = refl
other_there p (Stack q) n = refl
other_there p (Tail q) n = refl
other_there p (Long q) n = refl
other_there p (Pool q) n = refl
other_there p (States q) n = refl
other_there p (Runs q) n = refl
other_there p (Pairs q) n = refl
other_there p (Padded q) n = refl
other_there p Loaded n = refl
other_there p Room n = refl
other_there p Input n = refl
other_there p (Typed q) n = rw (ne_eqb q p (λ z. n (ap Typed z))) refl

-- the code's test is whether it is that refusal
pub elsewhere_is : (p : ℕ) (r : Refusal) (b : Bool) → (b ≡ false → r ≡ Typed p) → (b ≡ true → r ≡ Typed p → ⊥) → b ≡ elsewhere p r
unfolding elsewhere
elsewhere_is p r true f g = sym (other_there p r (g refl))
elsewhere_is p r false f g = rw (f refl, eq-eqb p p refl) refl

-- the area that the code lends is large enough: the answer is that of book_bytes
abbrev pub area : List ℕ
area = replicate typed_area 0

answer_roomy : (tried : List ℕ) → (type_of tried area).answer ≡ (put_book area (book_bytes tried)).answer
answer_roomy tried =
    ap (λ b. (cond b (record { answer = refuses Room; out = area }) (put_book area (book_bytes tried))).answer) (le-ltb (length area) typed_area (omega (arith, length-replicate {A = ℕ} typed_area 0)))

pub could_given : (tried : List ℕ) (n : ℕ) → gives n ≡ (type_of tried area).answer → true ≡ could_end tried
unfolding could_end
could_given tried n e = by_answer (book_bytes tried) refl
  where
    by_answer : (x : Outcome (List ℕ)) → book_bytes tried ≡ x → true ≡ not (wrong_at (length tried - 1) (book_bytes tried))
    by_answer (gives b) f = rw f refl
    by_answer (refuses r) f =
        let z : gives n ≡ refuses r = e ∙ answer_roomy tried ∙ ap (λ x. (put_book area x).answer) f in
        absurd (let z : ◌≡◌ {A = ℕ} 0 1 = cc in omega arith)

pub could_refused : (tried : List ℕ) (r : Refusal) (b : Bool) → refuses r ≡ (type_of tried area).answer
    → b ≡ elsewhere (length tried - 1) r → b ≡ could_end tried
unfolding could_end elsewhere
could_refused tried r b e o = by_answer (book_bytes tried) refl
  where
    by_answer : (x : Outcome (List ℕ)) → book_bytes tried ≡ x → b ≡ not (wrong_at (length tried - 1) (book_bytes tried))
    by_answer (gives w) f =
        let z : ◌≡◌ {A = Outcome ℕ} (refuses r) (gives (length w)) = e ∙ answer_roomy tried ∙ ap (λ x. (put_book area x).answer) f in
        absurd (let z : ◌≡◌ {A = ℕ} 0 1 = cc in omega arith)
    by_answer (refuses q) f =
        let z : ◌≡◌ {A = Outcome ℕ} (refuses r) (refuses q) = e ∙ answer_roomy tried ∙ ap (λ x. (put_book area x).answer) f in
        let same : r ≡ q = cc in
        o ∙ ap (λ x. not (wrong_at (length tried - 1) (refuses x))) same ∙ ap (λ x. not (wrong_at (length tried - 1) x)) (sym f)
