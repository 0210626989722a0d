-- The steps to the theorems of Main on the call: Room, Loaded, the book's refusal and the walk's, in this order, and what each leaves.
-- Also that a shown text is the only one, and what the call says of the memory that its book's own build left.
use Rattle.std.specs.Prelude.{ℕ, ◌-◌, ◌≡◌, Bool, true, false, cond, ◌||◌, List, ltb, length, take, replicate}
use Rattle.std.proofs.Math.Path.{refl, ap}
use Rattle.std.proofs.Common.{sym, subst, ◌∙◌, inl, inr, arith, length-append, take_at, drop_at}
use borrow.Author.Tests.{lt-ltb, le-ltb}
use Rattle.std.proofs.lemmas.List.{length-replicate}
use Rattle.number.specs.declared.Refusal.{Refusal}
use Rattle.number.specs.declared.Refusal.TheVariants.{Loaded, Room}
use Rattle.number.specs.Limits.{shown_text}
use Rattle.number.specs.Refused.{Outcome, row_of}
use Rattle.number.specs.Refused.Answer.{got, refused}
use Rattle.number.specs.Refused.Outcome.{gives, refuses}
use Rattle.meaning.specs.Re.{Re, Text}
use Rattle.meaning.proofs.RulesMean.{names_one}
use Rattle.meaning.specs.Tests.{or_of_true}
use Rattle.book.specs.Book.{Book}
use Rattle.book.specs.Reads.{read_book}
use Rattle.book.specs.Expression.{meant}
use Rattle.table.specs.Table.{Table, lent, well_formed}
use Rattle.table.specs.Calls.{padded, cramped}
use Rattle.table.proofs.SheetCalls.{filled_has_table}
use Rattle.cutting.specs.Steps.{label_of}
use Rattle.vector.specs.Layout.{work_length}
use Rattle.walk.specs.Texts.{NotLater}
use Rattle.walk.specs.Texts.NotLater.{equal, sooner}
use Rattle.walk.specs.TextLaws.{sooner_self, sooner_trans}
use Rattle.walk.specs.Passing.{WithinLimits, Limits}
use Rattle.walk.specs.PassingLaws.{no_row_lem}
use Rattle.built.specs.Calls.{build_book, filled_by, Building, build_of}
use Rattle.built.specs.Main.{the_build, the_call}
use Rattle.verdict.specs.Compare.{Verdict}
use Rattle.verdict.specs.Compare.Verdict.{Same, Differs}
use Rattle.verdict.specs.Calls.{Told, Comparison, compare_read, compare_book, answered_in, compare_of}
use Rattle.verdict.specs.Calls.Told.{same, differs}
use Rattle.verdict.specs.Demand.{AgreeOn, Differ, held_pairs}
use Rattle.verdict.specs.Called.{Roomy, Short, Refuses, Shows, Answered, OneText}
use Rattle.verdict.specs.VerdictLaws.{same_exactly, shown_differs, limits_at, own_table}

-- ---- one text is shown

both_ways : (u v : Text) → NotLater u v → NotLater v u → u ≡ v
both_ways u v (equal e) q = e
both_ways u v (sooner s) (equal e) = sym e
both_ways u v (sooner s) (sooner q) = absurd (sooner_self (sooner_trans s q))

module _ (rs : List Re) (t : Table) where
  not_agreed : (text : Text) (x y : ℕ) → Differ rs t text x y → AgreeOn rs t text → ⊥
  not_agreed text x y d a = d.differ (names_one rs text x (label_of t text) d.by_book a ∙ d.by_table)

  pub text_one : (u v : Text) (x y z w : ℕ) → Differ rs t u x y → Differ rs t v z w → OneText u v x y z w
  text_one u v x y z w d e =
      let first = d.first_label v e.is_text e.some (not_agreed v z w e) in
      let second = e.first_label u d.is_text d.some (not_agreed u x y d) in
      let same_text : u ≡ v = both_ways u v first second in
      record {
        one_text = same_text;
        one_book = names_one rs v x z (rw same_text at d.by_book) e.by_book;
        one_table = sym d.by_table ∙ ap (label_of t) same_text ∙ e.by_table;
      }

-- ---- what is answered, and what is left

told_length : {m n x y z w : ℕ} → ◌≡◌ {A = Outcome Told} (gives (differs m x y)) (gives (differs n z w)) → m ≡ n
told_length e = cc

told_book : {m n x y z w : ℕ} → ◌≡◌ {A = Outcome Told} (gives (differs m x y)) (gives (differs n z w)) → x ≡ z
told_book e = cc

told_table : {m n x y z w : ℕ} → ◌≡◌ {A = Outcome Told} (gives (differs m x y)) (gives (differs n z w)) → y ≡ w
told_table e = cc

not_same : {n x y : ℕ} → ◌≡◌ {A = Outcome Told} (gives same) (gives (differs n x y)) → ⊥
not_same e = let z : ◌≡◌ {A = ℕ} 0 1 = cc in omega arith

not_told : {r : Refusal} {u : Told} → ◌≡◌ {A = Outcome Told} (refuses r) (gives u) → ⊥
not_told e = let z : ◌≡◌ {A = ℕ} 0 1 = cc in omega arith

module _ (file : List ℕ) (b : Book) (after : ℕ) (t : Table) (read : read_book file ≡ got b after) (area work : List ℕ) (room : Roomy area work) where
  abbrev rs : List Re
  rs = meant b

  shows : (text : Text) (x y : ℕ) → Differ rs t text x y → Shows rs t (length text) x y area (padded (length area) text)
  shows text x y d =
      let zeros : List ℕ = replicate (length area - length text) 0 in
      let e : take (length text) (padded (length area) text) ≡ text = take_at text zeros (length text) refl in
      record {
        enough = ap length e;
        differ = rw e d;
        rest = drop_at text zeros (length text) refl;
        whole = omega (arith, length-append text zeros, length-replicate {A = ℕ} (length area - length text) 0, d.short, room.for_text);
      }

  limits_of : (o : Outcome Verdict) → compare_book file t ≡ o → Limits (held_pairs rs t) (row_of o)
  limits_of o e = subst (λ (o : Outcome Verdict). Limits (held_pairs rs t) (row_of o)) e (limits_at file b after t read)

  answers_in : (o : Outcome Verdict) → compare_book file t ≡ o → Answered rs t area work (answered_in area work o)
  answers_in (gives Same) e =
      let limits = limits_of (gives Same) e in
      let alike = (same_exactly file b after t read Same e).0 refl in
      record {
        is_same = (λ d. (limits.none.0 refl, alike), λ d. refl);
        same_text = λ d. refl;
        differs_text = λ n x y d. absurd (not_same d);
        is_differs = λ text x y w d. absurd (d.cuts_differ (alike text d.is_text));
        limits = limits;
        refused_text = λ r d. refl;
        work_blank = refl;
      }
  answers_in (gives (Differs u p q)) e =
      let limits = limits_of (gives (Differs u p q)) e in
      let shown = shown_differs file b after t read u p q e in
      record {
        is_same = (λ d. absurd (not_same (sym d)), λ d. absurd (shown.cuts_differ (d.1 u shown.is_text)));
        same_text = λ d. absurd (not_same (sym d));
        differs_text = λ n x y d. rw (← told_length d, ← told_book d, ← told_table d) (shows u p q shown);
        is_differs = λ text x y w d.
            let o = text_one rs t u text p q x y shown d in
            λ i. gives (differs (length (o.one_text i)) (o.one_book i) (o.one_table i));
        limits = limits;
        refused_text = λ r d. absurd (not_told (sym d));
        work_blank = refl;
      }
  answers_in (refuses r) e =
      let limits = limits_of (refuses r) e in
      let over : WithinLimits (held_pairs rs t) → ⊥ = λ w. no_row_lem (sym (limits.none.1 w)) in
      record {
        is_same = (λ d. absurd (not_told d), λ d. absurd (over d.0));
        same_text = λ d. absurd (not_told d);
        differs_text = λ n x y d. absurd (not_told d);
        is_differs = λ text x y w d. absurd (over w);
        limits = limits;
        refused_text = λ q d. refl;
        work_blank = refl;
      }

-- ---- the call

module _ (file : List ℕ) (s : ℕ) (labels targets area work : List ℕ) where
  abbrev call : Comparison
  call = compare_of file s labels targets area work

  of_test : Bool → Comparison
  of_test short =
      cond short (record { answer = refuses Room; text = area; work = work })
      (cond (well_formed s labels targets) (answered_in area work (compare_book file (lent s labels targets))) (answered_in area work (refuses Loaded)))

  pub short_room : Short area work → call ≡ record { answer = refuses Room; text = area; work = work }
  unfolding of_test
  short_room (inl l) = rw (lt-ltb (length area) shown_text l) refl
  short_room (inr l) = ap of_test (or_of_true (ltb (length area) shown_text) (lt-ltb (length work) work_length l))

  module _ (room : Roomy area work) where
    roomy : call ≡ of_test false
    unfolding of_test
    roomy = rw (le-ltb (length area) shown_text room.for_text, le-ltb (length work) work_length room.for_work) refl

    pub ill_formed : well_formed s labels targets ≡ false → Refuses Loaded area work call
    unfolding of_test
    ill_formed e = rw (roomy, e) (record { is_refused = refl; text_blank = refl; work_blank = refl })

    well_formed_lem : well_formed s labels targets ≡ true → call ≡ answered_in area work (compare_book file (lent s labels targets))
    unfolding of_test
    well_formed_lem e = roomy ∙ rw e refl

    pub book_refused : well_formed s labels targets ≡ true → (r : Refusal) → read_book file ≡ refused r → Refuses r area work call
    book_refused e r d =
        rw (well_formed_lem e ∙ ap (λ x. answered_in area work (compare_read (lent s labels targets) x)) d)
        (record { is_refused = refl; text_blank = refl; work_blank = refl })

    pub call_answered : well_formed s labels targets ≡ true → (b : Book) (after : ℕ) → read_book file ≡ got b after
        → Answered (meant b) (lent s labels targets) area work call
    call_answered e b after d =
        rw (well_formed_lem e) (answers_in file b after (lent s labels targets) d area work room (compare_book file (lent s labels targets)) refl)

    -- a table that is found the same
    pub call_same : well_formed s labels targets ≡ true → compare_book file (lent s labels targets) ≡ gives Same
        → call ≡ record { answer = gives same; text = replicate (length area) 0; work = replicate (length work) 0 }
    call_same e d = well_formed_lem e ∙ ap (answered_in area work) d

-- ---- the memory that the book's own build left

count_same : {m n : ℕ} → ◌≡◌ {A = Outcome ℕ} (gives m) (gives n) → m ≡ n
count_same e = cc

no_count : {r : Refusal} {n : ℕ} → ◌≡◌ {A = Outcome ℕ} (refuses r) (gives n) → ⊥
no_count e = let z : ◌≡◌ {A = ℕ} 0 1 = cc in omega arith

module _ (file labels targets scratch : List ℕ) (n : ℕ) (e : (build_of file labels targets scratch).table.answer ≡ gives n) where
  abbrev made : Building
  made = build_of file labels targets scratch

  made_table : build_book file ≡ gives (lent n made.table.labels made.table.targets)
  made_table = go (cramped labels targets || ltb (length scratch) work_length) e
    where
      built : Bool → Building
      built b =
          cond b (record { table = record { answer = refuses Room; labels = labels; targets = targets }; work = scratch })
          (record { table = filled_by labels targets (build_book file); work = replicate (length scratch) 0 })

      filled : (o : Outcome Table) → build_book file ≡ o → (filled_by labels targets o).answer ≡ gives n
          → o ≡ gives (lent n (filled_by labels targets o).labels (filled_by labels targets o).targets)
      filled (refuses r) d c = absurd (no_count c)
      filled (gives u) d c =
          let left = the_call file labels targets scratch n e in
          let formed = (the_build file left.book left.after u left.read d).formed in
          ap gives (subst (λ (k : ℕ). u ≡ lent k (padded (length labels) u.labels) (padded (length targets) u.targets)) (count_same c)
          (sym (filled_has_table u labels targets formed)))

      go : (b : Bool) → (built b).table.answer ≡ gives n → build_book file ≡ gives (lent n (built b).table.labels (built b).table.targets)
      go true d = absurd (no_count d)
      go false d = filled (build_book file) refl d

  pub own_call : (area work : List ℕ) → Roomy area work
      → compare_of file n made.table.labels made.table.targets area work
      ≡ record { answer = gives same; text = replicate (length area) 0; work = replicate (length work) 0 }
  own_call area work room =
      call_same file n made.table.labels made.table.targets area work room
      (the_call file labels targets scratch n e).well_formed_lem (own_table file (lent n made.table.labels made.table.targets) made_table)
