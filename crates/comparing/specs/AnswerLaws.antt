-- Laws of the answers, one for each return of the code, from the walk's end up to the public call.
-- What the walk found is what the book's rules come to beside the table; Room, Loaded and the book's refusals come before.
use Rattle.std.specs.Prelude.{ℕ, ◌+◌, ◌*◌, ◌-◌, ◌<◌, ◌≤◌, ◌≡◌, refl, Bool, true, false, cond, length, take, drop, replicate, Option, Result, Ok, Err}
use Rattle.std.proofs.Common.{sym, subst, ◌∙◌, arith, lt-ltb, le-ltb, drop_of_length-le}
use Rattle.std.proofs.Math.Path.{ap}
use mathlib.Core.List.{List, [], ◌++◌, append-nil}
use Rattle.std.proofs.Math.Nat.{sub-zero}
use Rattle.std.proofs.lemmas.List.{length-replicate}
use Rattle.number.specs.declared.Refusal.{Refusal}
use Rattle.number.specs.declared.Refusal.TheVariants.{Room, Loaded}
use Rattle.number.specs.Limits.{bytes, shown_text, work_cells}
use Rattle.number.specs.Refused.{Outcome, row_of}
use Rattle.number.specs.Refused.Outcome.{gives, refuses}
use Rattle.number.specs.Lists.{written}
use Rattle.book.specs.Reads.{read_book}
use Rattle.book.specs.Calls.{size_of}
use Rattle.book.specs.PlaceLaws.{checked_counts, checked_refused}
use Rattle.table.specs.Table.{Table, lent, well_formed}
use Rattle.table.specs.Formed.{Formed}
use Rattle.table.specs.SheetFormed.{well_formed_lem}
use Rattle.walk.specs.Walk.{walk_from}
use Rattle.walk.specs.Walk.Walked.{halted}
use Rattle.vector.specs.Layout.{work_length}
use Rattle.steps.specs.declared.Extent.{Extent}
use Rattle.steps.specs.CallLaws.{kept_reads}
use Rattle.start.specs.Start.{rules_in}
use Rattle.verdict.specs.declared.Difference.{Difference}
use Rattle.verdict.specs.Compare.{Verdict, compared_by, compare_rules}
use Rattle.verdict.specs.Compare.Verdict.{Same, Differs}
use Rattle.verdict.specs.Calls.{compare_read, compare_book, Comparison, answered_in, compare_of}
use Rattle.pairs.specs.Promises.{by_targets, Walks, Ends}
use Rattle.shown.specs.Promises.{Legible, Traced, Blank, Answers, Shows}
use Rattle.comparing.specs.Promises.{Comparable, Rules, loaded_of, Compares}

-- ---- a book's rules against a table's labels and targets

module _ (file : List ℕ) (n : ℕ) (labels targets area s : List ℕ) (ok : Comparable file n labels targets area s) (s₁ : List ℕ) (x : Result Extent Refusal)
    (ends : Ends n targets s₁ (walk_from (by_targets targets) (rules_in file)) x) where
  as_walk : (t : Table) → t.targets ≡ targets → compare_rules t (rules_in file) ≡ compared_by t (walk_from (by_targets targets) (rules_in file))
  unfolding compare_rules
  as_walk t q = ap (λ (u : List ℕ). compared_by t (walk_from (by_targets u) (rules_in file))) q

  pub rules_refused : (r : Refusal) → x ≡ Err r → Rules file labels targets area area (Err r)
  rules_refused r e = record {
    rules = λ t p q.
        let w : walk_from (by_targets targets) (rules_in file) ≡ halted r = subst (Ends n targets s₁ (walk_from (by_targets targets) (rules_in file))) e ends in
        let o : compare_rules t (rules_in file) ≡ refuses r = as_walk t q ∙ ap (compared_by t) w in
        record { answer = rw o refl; text = rw o ok.blank.clear };
  }

  module _ (y : Extent) (e : x ≡ Ok y) where
    found : Walks n targets s₁ y.top y.count (walk_from (by_targets targets) (rules_in file))
    found = subst (Ends n targets s₁ (walk_from (by_targets targets) (rules_in file))) e ends

    -- the items' labels and texts can be told
    pub rules_legible : Legible s₁ n y.count labels
    rules_legible =
        let b = found.beside in
        record {
          long = b.kept.long;
          few = b.few;
          reads = λ k l. kept_reads k b.kept l;
          sheets = λ k l. omega (arith, ok.rows, b.sheets k l);
        }

    pub rules_traced : Traced s₁ y.count
    rules_traced =
        let b = found.beside in
        record { long = b.kept.long; few = b.few; parents = b.kept.parents; text_bytes = b.kept.text_bytes }

    pub rules_shown : (area' : List ℕ) (r : Option Difference) → Shows s₁ n y.count labels area area' r → Rules file labels targets area area' (Ok r)
    rules_shown area' r f = record {
      rules = λ t p q. subst (λ (o : Outcome Verdict). Answers o area area' (Ok r)) (sym (as_walk t q ∙ ap (compared_by t) found.goes)) (f.shows t p);
    }

-- ---- a book and a table

module _ (file : List ℕ) (m : ℕ) (labels targets area : List ℕ) (blank : Blank area) where
  pub loaded_ill : false ≡ well_formed m labels targets → Answers (loaded_of file m labels targets) area area (Err Loaded)
  loaded_ill e = record { answer = rw (← e) refl; text = rw (← e) blank.clear }

  module _ (well : true ≡ well_formed m labels targets) where
    formed : Formed (lent m labels targets)
    formed = well_formed_lem m labels targets (sym well)

    as_loaded : loaded_of file m labels targets ≡ compare_book file (lent m labels targets)
    as_loaded = rw (← well)

    pub loaded_refused : (r : Refusal) → size_of (read_book file) ≡ refuses r → Answers (loaded_of file m labels targets) area area (Err r)
    loaded_refused r e =
        let o : loaded_of file m labels targets ≡ refuses r = as_loaded ∙ ap (compare_read (lent m labels targets)) (checked_refused file r e) in
        record { answer = rw o refl; text = rw o blank.clear }

    module _ (n sum : ℕ) (counted : size_of (read_book file) ≡ gives (record { rules = n; nodes = sum })) (ls ts : List ℕ)
        (part-labels : ls ≡ take (m - 0) labels) (part-targets : ts ≡ take (m * bytes - 0) targets) where
      -- the table's parts, cut to its states
      cut_labels : ls ≡ take m labels
      cut_labels = part-labels ∙ ap (λ (k : ℕ). take k labels) (sub-zero m)

      cut_targets : ts ≡ take (m * bytes) targets
      cut_targets = part-targets ∙ ap (λ (k : ℕ). take k targets) (sub-zero (m * bytes))

      pub loaded_comparable : (s : List ℕ) → work_length ≤ length s → length s ≤ work_cells → Comparable file n ls ts area s
      loaded_comparable s long small =
          let c = checked_counts file n sum counted in
          record {
            opened = record { book = c.b; after = c.after; read = c.read; many = c.many };
            long = long;
            small = small;
            closed = rw cut_targets (λ i h. omega (arith, formed.target i h, formed.filled));
            some = rw cut_labels (omega (arith, formed.some, formed.labelled));
            rows = rw (cut_labels, cut_targets) (omega (arith, formed.labelled, formed.filled));
            blank = blank;
          }

      pub loaded_compared : (area' : List ℕ) (r : Result (Option Difference) Refusal) → Rules file ls ts area area' r → Answers (loaded_of file m labels targets) area area' r
      loaded_compared area' r f =
          let c = checked_counts file n sum counted in
          let o : compare_rules (lent m labels targets) (rules_in file) ≡ loaded_of file m labels targets =
          rw c.read refl ∙ sym as_loaded in
          subst (λ (x : Outcome Verdict). Answers x area area' r) o (f.rules (lent m labels targets) (sym cut_labels) (sym cut_targets))

-- ---- the public call

-- an area that was filled with 0 is blank
pub blank_filled : (area area₁ : List ℕ) → shown_text ≤ length area → area₁ ≡ written area 0 (replicate (length area - 0) 0) → Blank area₁
unfolding written
blank_filled area area₁ h e =
    let z : area₁ ≡ replicate (length area) 0 = e ∙ rw sub-zero (whole (length-replicate (length area) 0)) in
    let l : length area₁ ≡ length area = ap length z ∙ length-replicate (length area) 0 in
    record { clear = z ∙ ap (λ (k : ℕ). replicate k 0) (sym l); room = omega arith }
  where
    whole : {w : List ℕ} → length w ≡ length area → w ++ drop (0 + length w) area ≡ w
    whole {w} f = let over : length area ≤ 0 + length w = omega arith in ap (λ (l : List ℕ). w ++ l) (drop_of_length-le area over) ∙ append-nil w

answered_answer : (area area₁ work : List ℕ) (o : Outcome Verdict) → (answered_in area₁ [] o).answer ≡ (answered_in area work o).answer
answered_answer area area₁ work (gives Same) = refl
answered_answer area area₁ work (gives (Differs text b s)) = refl
answered_answer area area₁ work (refuses r) = refl

answered_text : (area area₁ work : List ℕ) → length area₁ ≡ length area → (o : Outcome Verdict) → (answered_in area₁ [] o).text ≡ (answered_in area work o).text
answered_text area area₁ work e (gives Same) = rw e refl
answered_text area area₁ work e (gives (Differs text b s)) = rw e refl
answered_text area area₁ work e (refuses r) = rw e refl

answered_work : (area work : List ℕ) (o : Outcome Verdict) → (answered_in area work o).work ≡ replicate (length work) 0
answered_work area work (gives Same) = refl
answered_work area work (gives (Differs text b s)) = refl
answered_work area work (refuses r) = refl

module _ (file : List ℕ) (m : ℕ) (labels targets area work : List ℕ) where
  pub compare_small_area : length area < shown_text → Compares file m labels targets area work area work (Err Room)
  compare_small_area h = record {
    answer = simp (lt-ltb _ _ h);
    row = simp (lt-ltb _ _ h);
    text = simp (lt-ltb _ _ h);
    work_after = simp (lt-ltb _ _ h);
  }

  pub compare_small_work : shown_text ≤ length area → length work < work_length → Compares file m labels targets area work area work (Err Room)
  compare_small_work h k = record {
    answer = simp (le-ltb _ _ h, lt-ltb _ _ k);
    row = simp (le-ltb _ _ h, lt-ltb _ _ k);
    text = simp (le-ltb _ _ h, lt-ltb _ _ k);
    work_after = simp (le-ltb _ _ h, lt-ltb _ _ k);
  }

  module _ (h : shown_text ≤ length area) (k : work_length ≤ length work) where
    as_answered : compare_of file m labels targets area work ≡ answered_in area work (loaded_of file m labels targets)
    as_answered = rw (le-ltb (length area) shown_text h, le-ltb (length work) work_length k) (by_cases (well_formed m labels targets))
      where
        by_cases : (b : Bool)
            → cond b (answered_in area work (compare_book file (lent m labels targets))) (answered_in area work (refuses Loaded))
            ≡ answered_in area work (cond b (compare_book file (lent m labels targets)) (refuses Loaded))
        by_cases true = refl
        by_cases false = refl

    pub compare_done : (area₁ area₂ work₁ work₂ : List ℕ) (r : Result (Option Difference) Refusal) → length area₁ ≡ length area → Answers (loaded_of file m labels targets) area₁ area₂ r
        → length work₁ ≡ length work → work₂ ≡ replicate (length work₁) 0 → Compares file m labels targets area work area₂ work₂ r
    compare_done area₁ area₂ work₁ work₂ r e a f g =
        let o = loaded_of file m labels targets in
        let told = a.answer ∙ answered_answer area area₁ work o ∙ ap (λ (c : Comparison). c.answer) (sym as_answered) in
        record {
          answer = told;
          row = ap row_of told;
          text = a.text ∙ answered_text area area₁ work e o ∙ ap (λ (c : Comparison). c.text) (sym as_answered);
          work_after = g ∙ ap (λ (l : ℕ). replicate l 0) f ∙ sym (answered_work area work o) ∙ ap (λ (c : Comparison). c.work) (sym as_answered);
        }
