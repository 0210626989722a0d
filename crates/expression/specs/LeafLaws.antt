-- One law a return of the readers of an escape, a name and a leaf.
-- Each is the byte-by-byte reader's steps over what was read, and the nodes that were laid.
use Rattle.std.specs.Prelude.{ℕ, ◌+◌, ◌-◌, ◌*◌, ◌<◌, ◌≤◌, ◌≡◌, true, false, List, [], ◌∷◌, ◌++◌, length, take, drop, Some, None}
use native.Mathlib.Omega.{arith}
use Rattle.std.proofs.Math.Path.{refl}
use Rattle.std.proofs.Common.{sym, ap, subst, ◌∙◌}
use Rattle.std.proofs.Math.Option.{Option}
use Rattle.std.proofs.Math.Option.Option.{none, some}
use Rattle.std.proofs.Math.Seq.{slice, slice_empty}
use Rattle.number.specs.Limits.{last_byte}
use Rattle.book.specs.declared.Node.TheVariants.{Range}
use Rattle.typed.specs.Exp.{postfix}
use Rattle.typed.specs.Exp.Exp.{byte, dot, set}
use Rattle.typed.specs.Sets.{sets}
use Rattle.typed.specs.Spells.{between, bare, hex}
use Rattle.typed.specs.Reader.{Known, Frame, put, key, known, by_key, first_digit, last_digit, by_name, step, ended}
use Rattle.typed.specs.Reader.Known.{unknown, begun, whole}
use Rattle.typed.specs.Reader.Mode.{plain, escape, half, naming}
use Rattle.typed.specs.Reader.State.{at}
use Rattle.typed.specs.Reader.Step.{wrong, go}
use Rattle.typed.proofs.SpelledIsRead.{key_self}
use Rattle.std.proofs.lemmas.Option.{none-some}
use Rattle.std.proofs.lemmas.List.{drop-take}
use Rattle.laid.specs.Laid.{pack, AddsCell, Adds}
use Rattle.laid.specs.LaidLaws.{adds_node}
use Rattle.laid.specs.Tables.{set_at}
use Rattle.names.specs.Bytes.{byte_at, starting, found}
use Rattle.names.specs.ByteLaws.{byte_there, starting_bare}
use Rattle.names.specs.declared.Naming.{Naming}
use Rattle.names.specs.declared.Naming.TheVariants.{Unknown, Begun, Whole}
use Rattle.names.specs.Names.{told}
use Rattle.names.specs.NameLaws.{is_set, is_begun, is_unknown}
use Rattle.expression.specs.Reads.{Read, At, wrong_at, Goes, Within}
use Rattle.expression.specs.Reads.Reads.{reads, stops}
use Rattle.expression.specs.Reads.Within.{ahead, not_back}
use Rattle.expression.specs.Reads.Item.{placed}
use Rattle.expression.specs.Steps.{EscapeRead, NameRead, LeafRead}
use Rattle.expression.specs.GoesLaws.{slice_join, slice_one, goes_none, goes_one, goes_then, reads_after, due_wrong, due_open}

-- ---- the two digits of an escape

hex_none : (c : ℕ) → None ≡ found (hex c) → hex c ≡ none
hex_none c e = by_value (hex c) e
  where
    by_value : (o : Option ℕ) → None ≡ found o → o ≡ none
    by_value none z = refl
    by_value (some y) z = absurd (none-some y z)

hex_some : (c x : ℕ) → Some x ≡ found (hex c) → hex c ≡ some x
hex_some c x e = by_value (hex c) e
  where
    by_value : (o : Option ℕ) → Some x ≡ found o → o ≡ some x
    by_value none z = absurd (none-some x (sym z))
    by_value (some y) z = let e : x ≡ y = cc in ap some (sym e)

-- a newline is no digit, so where one is seen the text goes on
no_newline : (c x : ℕ) → hex c ≡ some x → c ≡ 10 → ⊥
unfolding hex between
no_newline c x e h = let z : none ≡ some x = sym (rw h refl) ∙ e in let y : ◌≡◌ {A = ℕ} 0 1 = cc in omega arith

digit_there : (text : List ℕ) (p x : ℕ) → hex (byte_at text p) ≡ some x → p < length text
digit_there text p x e = byte_there text p (no_newline (byte_at text p) x e)

first_step : (c x : ℕ) (f : Frame) (fs : List Frame) (n : ℕ) → hex c ≡ some x → step (at escape f fs n) c ≡ go (at (half x) f fs n)
unfolding step first_digit
first_step c x f fs n e = rw e refl

no_first : (c : ℕ) (f : Frame) (fs : List Frame) (n : ℕ) → hex c ≡ none → step (at escape f fs n) c ≡ wrong
unfolding step first_digit
no_first c f fs n e = rw e refl

last_step : (x c y : ℕ) (f : Frame) (fs : List Frame) (n : ℕ) → hex c ≡ some y → step (at (half x) f fs n) c ≡ go (at plain (put (byte (x * 16 + y)) f) fs n)
unfolding step last_digit
last_step x c y f fs n e = rw e refl

no_last : (x c : ℕ) (f : Frame) (fs : List Frame) (n : ℕ) → hex c ≡ none → step (at (half x) f fs n) c ≡ wrong
unfolding step last_digit
no_last x c f fs n e = rw e refl

module _ (text cells : List ℕ) (p top : ℕ) (h : p ≤ length text) where
  pub escape_none : None ≡ found (hex (byte_at text p)) → EscapeRead text cells p top (wrong_at p) cells
  unfolding ended
  escape_none z =
      record {
        same = refl;
        within = not_back p (omega arith) h;
        reads = λ f fs n. stops (at escape f fs n) (goes_none text p (at escape f fs n) h)
            (record { no_step = λ _. no_first (byte_at text p) f fs n (hex_none (byte_at text p) z); no_end = λ _ _. refl });
      }

  module _ (x : ℕ) (e : Some x ≡ found (hex (byte_at text p))) where
    pub first_there : p < length text
    first_there = digit_there text p x (hex_some (byte_at text p) x e)

    goes_first : (f : Frame) (fs : List Frame) (n : ℕ) → Goes text p (p + 1) (at escape f fs n) (at (half x) f fs n)
    goes_first f fs n =
        goes_one text p (byte_at text p) (at escape f fs n) (at (half x) f fs n) first_there refl
        (first_step (byte_at text p) x f fs n (hex_some (byte_at text p) x e))

    pub escape_half : None ≡ found (hex (byte_at text (p + 1))) → EscapeRead text cells p top (wrong_at (p + 1)) cells
    unfolding ended
    escape_half z =
        record {
          same = refl;
          within = not_back (p + 1) (omega arith) (omega (arith, first_there));
          reads = λ f fs n. stops (at (half x) f fs n) (goes_first f fs n)
              (record { no_step = λ _. no_last x (byte_at text (p + 1)) f fs n (hex_none (byte_at text (p + 1)) z); no_end = λ _ _. refl });
        }

    pub last_there : (y : ℕ) → Some y ≡ found (hex (byte_at text (p + 1))) → p + 1 < length text
    last_there y d = digit_there text (p + 1) y (hex_some (byte_at text (p + 1)) y d)

    pub escape_read : (y cell : ℕ) (cells' : List ℕ) (top' : ℕ) → Some y ≡ found (hex (byte_at text (p + 1)))
        → cell ≡ pack (Range (x * 16 + y) (x * 16 + y)) → AddsCell cells top cell cells' top' → EscapeRead text cells p top (At (p + 2) top') cells'
    unfolding postfix
    escape_read y cell cells' top' d z a =
        let l = last_there y d in
        let two : p + 1 + 1 ≡ p + 2 = omega arith in
        record {
          same = a.same;
          within = ahead (p + 2) (omega arith) (omega arith);
          reads = λ f fs n. reads (byte (x * 16 + y)) (at plain (put (byte (x * 16 + y)) f) fs n)
              (subst (λ (q : ℕ). Goes text p q (at escape f fs n) (at plain (put (byte (x * 16 + y)) f) fs n)) two
              (goes_then (goes_first f fs n) (goes_one text (p + 1) (byte_at text (p + 1)) (at (half x) f fs n)
              (at plain (put (byte (x * 16 + y)) f) fs n) l refl (last_step x (byte_at text (p + 1)) y f fs n (hex_some (byte_at text (p + 1)) y d)))))
              placed tt (adds_node (Range (x * 16 + y) (x * 16 + y)) z a);
        }

-- ---- a name, byte by byte

-- the bytes so far begin a name
pub record NamedSoFar (text : List ℕ) (from to : ℕ) : Type 0 where
  pub goes : (f : Frame) (fs : List Frame) (n : ℕ) → Goes text from to (at (naming []) f fs n) (at (naming (slice from to text)) f fs n)
  pub started : from ≤ to
  pub inside : to ≤ length text

pub naming_none : (text : List ℕ) (from : ℕ) → from ≤ length text → NamedSoFar text from from
naming_none text from h =
    record {
      goes = λ f fs n. subst (λ (w : List ℕ). Goes text from from (at (naming []) f fs n) (at (naming w) f fs n)) (sym (slice_empty from text))
          (goes_none text from (at (naming []) f fs n) h);
      started = omega arith;
      inside = h;
    }

name_step : (w : List ℕ) (c : ℕ) (v : List ℕ) (x : Known) (f : Frame) (fs : List Frame) (n : ℕ) → w ++ (c ∷ []) ≡ v → known v sets ≡ x
    → step (at (naming w) f fs n) c ≡ by_name x v f fs n
unfolding step
name_step w c v x f fs n e k = rw (e, step, k) refl

module _ (text : List ℕ) (from to : ℕ) (l : to < length text) (a : NamedSoFar text from to) where
  -- what the part up to and with the byte at `to` is to the names, told
  abbrev Is : Naming → Type 0
  Is x = x ≡ told (known (take (to + 1 - from) (drop from text)) sets)

  is_part : {x : Naming} → Is x → x ≡ told (known (slice from (to + 1) text) sets)
  is_part h =
      let e : from + (to + 1 - from) ≡ to + 1 = omega (arith, a.started) in
      h ∙ ap (λ (w : List ℕ). told (known w sets)) (sym (drop-take from (to + 1 - from) text) ∙ ap (λ (n : ℕ). drop from (take n text)) e)

  one_more : slice from to text ++ (byte_at text to ∷ []) ≡ slice from (to + 1) text
  one_more =
      ap (slice from to text ++◌) (sym (slice_one to text l))
      ∙ slice_join from to (to + 1) text a.started (omega arith) (omega arith)

  steps : (x : Known) (f : Frame) (fs : List Frame) (n : ℕ) → known (slice from (to + 1) text) sets ≡ x
      → step (at (naming (slice from to text)) f fs n) (byte_at text to) ≡ by_name x (slice from (to + 1) text) f fs n
  steps x f fs n z = name_step (slice from to text) (byte_at text to) (slice from (to + 1) text) x f fs n one_more z

  pub naming_more : Is Begun → NamedSoFar text from (to + 1)
  unfolding by_name
  naming_more z =
      record {
        goes = λ f fs n. goes_then (a.goes f fs n) (goes_one text to (byte_at text to) (at (naming (slice from to text)) f fs n)
            (at (naming (slice from (to + 1) text)) f fs n) l refl (steps begun f fs n (is_begun (known (slice from (to + 1) text) sets) (is_part z))));
        started = omega (arith, a.started);
        inside = omega arith;
      }

  pub name_unknown : (cells cells' : List ℕ) (top : ℕ) → length cells' ≡ length cells → Is Unknown → NameRead text cells from top (wrong_at to) cells'
  unfolding by_name ended
  name_unknown cells cells' top same z =
      record {
        same = same;
        within = not_back to a.started (omega arith);
        reads = λ f fs n. stops (at (naming (slice from to text)) f fs n) (a.goes f fs n)
            (record {
              no_step = λ _. steps unknown f fs n (is_unknown (known (slice from (to + 1) text) sets) (is_part z));
              no_end = λ _ _. refl;
            });
      }

  pub name_read : (k : ℕ) (cells cells' : List ℕ) (top top' : ℕ) → Is (Whole k) → Adds cells top (postfix (set (set_at k))) cells' top'
      → NameRead text cells from top (At (to + 1) top') cells'
  unfolding by_name
  name_read k cells cells' top top' m d =
      record {
        same = d.same;
        within = ahead (to + 1) (omega (arith, a.started)) (omega arith);
        reads = λ f fs n. reads (set (set_at k)) (at plain (put (set (set_at k)) f) fs n)
            (goes_then (a.goes f fs n) (goes_one text to (byte_at text to) (at (naming (slice from to text)) f fs n)
            (at plain (put (set (set_at k)) f) fs n) l refl (steps (whole (set_at k)) f fs n (is_set (known (slice from (to + 1) text) sets) k (is_part m)).1)))
            placed tt d;
      }

pub name_ends : (text : List ℕ) (from to : ℕ) (cells cells' : List ℕ) (top : ℕ) → length text ≤ to → NamedSoFar text from to → length cells' ≡ length cells
    → NameRead text cells from top (wrong_at (length text)) cells'
name_ends text from to cells cells' top h a same =
    let e : to ≡ length text = omega (arith, a.inside) in
    rw (← e) (record {
      same = same;
      within = not_back to a.started a.inside;
      reads = λ f fs n. stops (at (naming (slice from to text)) f fs n) (a.goes f fs n)
          (record { no_step = λ z. absurd (omega arith); no_end = λ z. absurd (omega arith) });
    })

-- the cells are those from before the loop
pub name_from : {text c₀ cells : List ℕ} {from top : ℕ} {r : Read} {cells' : List ℕ} → cells ≡ c₀ → NameRead text cells from top r cells'
    → NameRead text c₀ from top r cells'
name_from {text} {from = from} {top = top} {r = r} {cells' = cells'} e h = subst (λ (c : List ℕ). NameRead text c from top r cells') e h

-- ---- a leaf

slash_step : (c : ℕ) (f : Frame) (fs : List Frame) (n : ℕ) → c ≡ 92 → step (at plain f fs n) c ≡ go (at escape f fs n)
unfolding step key bare between by_key
slash_step c f fs n e = rw e refl

less_step : (c : ℕ) (f : Frame) (fs : List Frame) (n : ℕ) → c ≡ 60 → step (at plain f fs n) c ≡ go (at (naming []) f fs n)
unfolding step key bare between by_key
less_step c f fs n e = rw e refl

dot_step : (c : ℕ) (f : Frame) (fs : List Frame) (n : ℕ) → c ≡ 46 → step (at plain f fs n) c ≡ go (at plain (put dot f) fs n)
unfolding step key bare between by_key
dot_step c f fs n e = rw e refl

bare_step : (c : ℕ) (f : Frame) (fs : List Frame) (n : ℕ) → bare c ≡ true → step (at plain f fs n) c ≡ go (at plain (put (byte c) f) fs n)
unfolding step by_key
bare_step c f fs n e = rw (key_self c e) refl

bare_there : (c : ℕ) → bare c ≡ true → c ≡ 10 → ⊥
unfolding bare between
bare_there c e h = let z : false ≡ true = sym (rw h refl) ∙ e in let y : ◌≡◌ {A = ℕ} 0 1 = cc in omega arith

module _ (text : List ℕ) (p c : ℕ) (e : c ≡ byte_at text p) where
  pub there : (c ≡ 10 → ⊥) → p < length text
  there n = byte_there text p (λ z. n (e ∙ z))

  later : {len : ℕ} {r : Read} → Within (p + 1) len r → Within p len r
  later (ahead q h k) = ahead q (omega arith) k
  later (not_back q h k) = not_back q (omega arith) k

  pub leaf_escape : (cells cells' : List ℕ) (top : ℕ) (r : Read) → c ≡ 92 → EscapeRead text cells (p + 1) top r cells' → LeafRead text cells p top r cells'
  leaf_escape cells cells' top r z a =
      record {
        same = a.same;
        within = later a.within;
        reads = λ f fs n _ _. reads_after (goes_one text p c (at plain f fs n) (at escape f fs n) (there (λ y. omega arith)) (sym e)
            (slash_step c f fs n z)) (a.reads f fs n);
      }

  pub leaf_name : (cells cells' : List ℕ) (top : ℕ) (r : Read) → c ≡ 60 → NameRead text cells (p + 1) top r cells' → LeafRead text cells p top r cells'
  leaf_name cells cells' top r z a =
      record {
        same = a.same;
        within = later a.within;
        reads = λ f fs n _ _. reads_after (goes_one text p c (at plain f fs n) (at (naming []) f fs n) (there (λ y. omega arith)) (sym e)
            (less_step c f fs n z)) (a.reads f fs n);
      }

  pub leaf_dot : (cells cells' : List ℕ) (top top' cell : ℕ) → c ≡ 46 → cell ≡ pack (Range 0 last_byte) → AddsCell cells top cell cells' top'
      → LeafRead text cells p top (At (p + 1) top') cells'
  unfolding postfix
  leaf_dot cells cells' top top' cell z y a =
      let l = there (λ x. omega arith) in
      record {
        same = a.same;
        within = ahead (p + 1) (omega arith) (omega arith);
        reads = λ f fs n _ _. reads dot (at plain (put dot f) fs n)
            (goes_one text p c (at plain f fs n) (at plain (put dot f) fs n) l (sym e) (dot_step c f fs n z)) placed tt (adds_node (Range 0 last_byte) y a);
      }

  pub leaf_bare : (cells cells' : List ℕ) (top top' cell : ℕ) → bare c ≡ true → cell ≡ pack (Range c c) → AddsCell cells top cell cells' top'
      → LeafRead text cells p top (At (p + 1) top') cells'
  unfolding postfix
  leaf_bare cells cells' top top' cell z y a =
      let l = there (bare_there c z) in
      record {
        same = a.same;
        within = ahead (p + 1) (omega arith) (omega arith);
        reads = λ f fs n _ _. reads (byte c) (at plain (put (byte c) f) fs n)
            (goes_one text p c (at plain f fs n) (at plain (put (byte c) f) fs n) l (sym e) (bare_step c f fs n z)) placed tt (adds_node (Range c c) y a);
      }

  pub leaf_wrong : (cells : List ℕ) (top : ℕ) → p ≤ length text → (c ≡ 92 → ⊥) → (c ≡ 60 → ⊥) → (c ≡ 46 → ⊥) → bare c ≡ false
      → LeafRead text cells p top (wrong_at p) cells
  leaf_wrong cells top h x y z b =
      record {
        same = refl;
        within = not_back p (omega arith) h;
        reads = λ f fs n o d.
            let s : starting (byte_at text p) ≡ false =
            sym (starting_bare (byte_at text p) false o (λ k. y (e ∙ k)) (λ k. x (e ∙ k)) (λ k. z (e ∙ k)) (sym (sym (ap bare e) ∙ b))) in
            stops (at plain f fs n) (goes_none text p (at plain f fs n) h)
            (record { no_step = λ _. due_wrong (byte_at text p) f fs n d s; no_end = λ _ _. due_open (byte_at text p) f fs n d s });
      }
