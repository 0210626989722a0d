-- One sheet by readers that differ in nothing but their limit of states: what each answers, by the count that the sheet tells.
-- A sheet has the same bytes for all of them; a reader refuses a larger one at its state count, before it reads any state.
use Prim.Native.Nat.{ℕ, zero, suc, ◌≤◌, ◌<◌}
use Rattle.std.proofs.Common.{arith, ◌∙◌}
use Rattle.std.specs.Prelude.{◌≡◌, refl, List, ltb, length}
use Rattle.std.proofs.Math.Path.{sym, ap}
use borrow.Author.Tests.{lt-ltb, le-ltb}
use Rattle.number.specs.declared.Refusal.{Refusal}
use Rattle.number.specs.declared.Refusal.TheVariants.{Tail, Range}
use Rattle.number.specs.Limits.{sheet_version, states}
use Rattle.number.specs.Refused.{Answer}
use Rattle.number.specs.Refused.Answer.{got, refused}
use Rattle.number.specs.Numbers.{Bytes, read_number, field}
use Rattle.number.proofs.NumberLaws.{width_is, written_read, field_read, field_refused, field_low, field_high, field_got}
use Rattle.number.proofs.NumberLaws.Written.{one}
use Rattle.table.specs.Table.{Table}
use Rattle.table.specs.Sheet.{Rows, sheet, read_states, read_sheet_to, read_sheet, count_told, write_sheet}
use Rattle.table.specs.Formed.{Formed}
use Rattle.table.proofs.SheetBytes.{sheet_bytes}
use Rattle.table.specs.SheetLaws.{SheetRead, clash, got_onward, got_past, sheet_read_back, sheet_back}

-- the ways of reading a whole sheet, whatever the reader's limit
module _ (file : List ℕ) (most : ℕ) where
  pub sheet_no_version : {q : Refusal} → field file sheet_version sheet_version 0 ≡ refused q → read_sheet_to file most ≡ refused q
  unfolding sheet
  sheet_no_version e = simp e

  module _ {v at1 : ℕ} (version-got : field file sheet_version sheet_version 0 ≡ got v at1) where
    pub sheet_no_count : {q : Refusal} → field file 1 most at1 ≡ refused q → read_sheet_to file most ≡ refused q
    unfolding sheet
    sheet_no_count e = simp (version-got, e)

    module _ {s at2 : ℕ} (count-got : field file 1 most at1 ≡ got s at2) where
      pub sheet_no_states : {q : Refusal} → read_states file s at2 ≡ refused q → read_sheet_to file most ≡ refused q
      unfolding sheet
      sheet_no_states e = simp (version-got, count-got, e)

      module _ {rows : Rows} {next : ℕ} (states-got : read_states file s at2 ≡ got rows next) where
        pub sheet_tail : next < length file → read_sheet_to file most ≡ refused (Tail next)
        unfolding sheet
        sheet_tail h = simp (version-got, count-got, states-got, lt-ltb _ _ h)

        pub sheet_got : length file ≤ next
            → read_sheet_to file most ≡ got (record { count = s; labels = rows.labels; targets = rows.targets }) next
        unfolding sheet
        sheet_got h = simp (version-got, count-got, states-got, le-ltb _ _ h)

module _ (file : List ℕ) where
  -- how the version's field came out
  data Version : Type 0 where
    wrong : (r : Refusal) → field file sheet_version sheet_version 0 ≡ refused r → Version
    right : (v mid : ℕ) → field file sheet_version sheet_version 0 ≡ got v mid → Version

  versioned : Version
  versioned = go (field file sheet_version sheet_version 0) refl
    where
      go : (x : Answer ℕ) → field file sheet_version sheet_version 0 ≡ x → Version
      go (refused r) e = wrong r e
      go (got v mid) e = right v mid e

  -- the version takes one byte, so that the state count stands at place 1
  count_place : (v mid : ℕ) → Bytes file → field file sheet_version sheet_version 0 ≡ got v mid → mid ≡ 1
  count_place v mid all e =
      let told = field_read file sheet_version sheet_version 0 v mid e in
      let at = written_read file 0 v mid all told.read in
      omega (arith, at.after, width_is v (one (omega (arith, told.high))))

  -- no count is told: each reader refuses as the count is refused
  pub untold_refused : (k : ℕ) (r : Refusal) → count_told file ≡ refused r → read_sheet_to file k ≡ refused r
  untold_refused k r = go versioned
    where
      go : Version → count_told file ≡ refused r → read_sheet_to file k ≡ refused r
      go (wrong q e) f =
          let same : q ≡ r = cc (rw e at f) in
          rw (sym same) (sheet_no_version file k e)
      go (right v mid e) f = sheet_no_count file k e (field_refused file 1 k mid r (rw e at f))

  -- more states than a reader takes: Range at the state count
  pub larger_refused : (k s next : ℕ) → Bytes file → count_told file ≡ got s next → k < s → read_sheet_to file k ≡ refused (Range 1)
  larger_refused k s next all = go versioned
    where
      go : Version → count_told file ≡ got s next → k < s → read_sheet_to file k ≡ refused (Range 1)
      go (wrong q e) f h = absurd (clash (rw e at f))
      go (right v mid e) f h =
          rw (sym (count_place v mid all e)) (sheet_no_count file k e (field_high file 1 k mid s next (rw e at f) (omega arith) h))

  -- as many as both take: what one reader answers, sheet or refusal, the other does
  pub read_alike : (k m s next : ℕ) → count_told file ≡ got s next → s ≤ k → s ≤ m → read_sheet_to file k ≡ read_sheet_to file m
  unfolding sheet
  read_alike k m s next = go s versioned
    where
      go : (s : ℕ) → Version → count_told file ≡ got s next → s ≤ k → s ≤ m → read_sheet_to file k ≡ read_sheet_to file m
      go s (wrong q e) f h i = absurd (clash (rw e at f))
      go zero (right v mid e) f h i =
          let read : read_number file mid ≡ got 0 next = rw e at f in
          sheet_no_count file k e (field_low file 1 k mid 0 next read (omega arith))
          ∙ sym (sheet_no_count file m e (field_low file 1 m mid 0 next read (omega arith)))
      go (suc s) (right v mid e) f h i =
          let read : read_number file mid ≡ got (suc s) next = rw e at f in
          simp (e, field_got file 1 k mid (suc s) next read (omega arith) h, field_got file 1 m mid (suc s) next read (omega arith) i)

-- ---- sheets of tables

-- a sheet that some reader takes tells the count of its table, which is within that reader's limit
module _ (file : List ℕ) where
  record Counts (k : ℕ) (t : Table) : Type 0 where
    next : ℕ
    told : count_told file ≡ got t.count next
    within : t.count ≤ k

  read_counts : (k : ℕ) (t : Table) (after : ℕ) → read_sheet_to file k ≡ got t after → Counts k t
  unfolding sheet
  read_counts k t after e =
      got_onward (field file sheet_version sheet_version 0) e λ v mid read_version e₁.
      got_onward (field file 1 k mid) e₁ λ s far read_count e₂.
      got_onward (read_states file s far) e₂ λ rows then read_rows e₃.
      got_past (ltb then (length file)) _ then _ e₃ λ ends done.
      let told = field_read file 1 k mid s far read_count in
      let same : s ≡ t.count = cc in
      record {
        next = far;
        told = rw read_version (told.read ∙ ap (λ (n : ℕ). got n far) same);
        within = omega (arith, told.high);
      }

-- the sheet of a table, by any reader: taken whole by one whose limit it keeps, refused at its state count by the others
module _ (t : Table) (f : Formed t) where
  counts : Counts (write_sheet t) states t
  counts = read_counts (write_sheet t) states t (length (write_sheet t)) (sheet_read_back t f)

  pub few_taken : (k : ℕ) → t.count ≤ k → read_sheet_to (write_sheet t) k ≡ got t (length (write_sheet t))
  few_taken k h =
      read_alike (write_sheet t) k states t.count counts.next counts.told h f.most ∙ sheet_read_back t f

  pub many_refused : (k : ℕ) → k < t.count → read_sheet_to (write_sheet t) k ≡ refused (Range 1)
  many_refused k h = larger_refused (write_sheet t) k t.count counts.next (sheet_bytes t f) counts.told h

-- and no reader whose limit is ours or lower takes anything else
pub taken_few : (file : List ℕ) (k : ℕ) (t : Table) (after : ℕ) → Bytes file → k ≤ states → read_sheet_to file k ≡ got t after
    → SheetRead file t after × (t.count ≤ k)
taken_few file k t after all less e =
    let c : Counts file k t = read_counts file k t after e in
    let ours : read_sheet file ≡ got t after =
    read_alike file states k t.count c.next c.told (omega (arith, c.within)) c.within ∙ e in
    (sheet_back file all t after ours, c.within)
