-- The steps to the theorems of Main: a table built from a book is right, a call that succeeds leaves such a table, and wider limits change no answer.
-- What is proved of rules stands in BuildLaws and BuiltFormed, and of a walk with other limits in walk's WiderLaws; here it comes to books and to memory.
use Rattle.std.specs.Prelude.{ℕ, ◌≤◌, ◌≡◌, refl, Bool, true, false, cond, ◌||◌, List, ltb, length, replicate}
use Rattle.std.proofs.Common.{sym, ap, subst, ◌∙◌, arith}
use Rattle.std.proofs.lemmas.List.{length-map}
use Rattle.number.specs.declared.Refusal.{Refusal}
use Rattle.number.specs.declared.Refusal.TheVariants.{Long, Room}
use Rattle.number.specs.Limits.{rules, states, pool}
use Rattle.number.specs.Refused.{Answer, Outcome}
use Rattle.number.specs.Refused.Answer.{got, refused}
use Rattle.number.specs.Refused.Outcome.{gives, refuses}
use Rattle.meaning.specs.Re.{Re}
use Rattle.book.specs.Book.{Book}
use Rattle.book.specs.Reads.{read_book}
use Rattle.book.specs.Expression.{expression, meant}
use Rattle.book.specs.ReadLaws.{book_valid}
use Rattle.table.specs.Table.{Table, lent}
use Rattle.table.specs.Calls.{padded, cramped, filled_with}
use Rattle.table.specs.Formed.{Formed}
use Rattle.table.specs.SheetFormed.{formed_well}
use Rattle.table.specs.SheetLaws.{sheet_read_back}
use Rattle.table.proofs.SheetCalls.{filled_has_table}
use Rattle.vector.specs.Layout.{work_length}
use Rattle.walk.specs.WiderLaws.{wider_gives, wider_refuses, long_stays}
use Rattle.built.specs.Build.{alone_to, built_of, build_rules_to, build_rules}
use Rattle.built.specs.Calls.{build_read, build_book, filled_by, Building, build_of}
use Rattle.built.specs.Bought.{Right, Left}
use Rattle.built.specs.BuildLaws.{build_names, build_cuts}
use Rattle.built.specs.BuiltFormed.{built_formed}

-- ---- a book's table

-- a book that is read has at most as many rules as a label can name
few_rules : (file : List ℕ) (b : Book) (after : ℕ) → read_book file ≡ got b after → length (meant b) ≤ rules
few_rules file b after e = omega (arith, length-map b.rules expression, (book_valid file b after e).0.few)

pub build_right : (file : List ℕ) (b : Book) (after : ℕ) (t : Table) → read_book file ≡ got b after → build_book file ≡ gives t → Right b t
build_right file b after t e d =
    let m : build_rules (meant b) ≡ gives t = sym (ap build_read e) ∙ d in
    let f = built_formed (meant b) t (few_rules file b after e) m in
    record {
      names = build_names (meant b) t m;
      cuts = build_cuts (meant b) t m;
      formed = f;
      sheet = sheet_read_back t f;
    }

-- ---- what a call leaves

gives_count : {n m : ℕ} → ◌≡◌ {A = Outcome ℕ} (gives n) (gives m) → n ≡ m
gives_count e = cc

no_count : {r : Refusal} {n : ℕ} → ◌≡◌ {A = Outcome ℕ} (refuses r) (gives n) → ⊥
no_count e = let z : ◌≡◌ {A = ℕ} 0 1 = cc in omega arith

module _ (file labels targets : List ℕ) where
  left_filled : (s : ℕ) (o : Outcome Table) → build_book file ≡ o → (filled_by labels targets o).answer ≡ gives s
      → Left file s (filled_by labels targets o).labels (filled_by labels targets o).targets
  left_filled s (refuses r) d e = absurd (no_count e)
  left_filled s (gives t) d e = go (read_book file) refl d
    where
      go : (x : Answer Book) → read_book file ≡ x → build_read x ≡ gives t
          → Left file s (filled_with labels targets t).labels (filled_with labels targets t).targets
      go (refused r) p q = absurd (let z : ◌≡◌ {A = ℕ} 0 1 = cc in omega arith)
      go (got b after) p q =
          let m = build_right file b after t p (ap build_read p ∙ q) in
          let l = filled_has_table t labels targets m.formed in
          let n : t.count ≡ s = gives_count e in
          let u : lent s (padded (length labels) t.labels) (padded (length targets) t.targets) ≡ t =
          ap (λ (k : ℕ). lent k (padded (length labels) t.labels) (padded (length targets) t.targets)) (sym n) ∙ l in
          record {
            book = b;
            after = after;
            read = p;
            well_formed_lem = formed_well s _ _ (subst Formed (sym u) m.formed);
            right = subst (Right b) (sym u) m;
          }

  pub call_left : (work : List ℕ) (s : ℕ) → (build_of file labels targets work).table.answer ≡ gives s
      → Left file s (build_of file labels targets work).table.labels (build_of file labels targets work).table.targets
  call_left work s e = go (cramped labels targets || ltb (length work) work_length) e
    where
      of_test : Bool → Building
      of_test b = cond b (record { table = record { answer = refuses Room; labels = labels; targets = targets }; work = work })
          (record { table = filled_by labels targets (build_book file); work = replicate (length work) 0 })

      go : (b : Bool) → (of_test b).table.answer ≡ gives s → Left file s (of_test b).table.labels (of_test b).table.targets
      go true d = absurd (no_count d)
      go false d = left_filled s (build_book file) refl d

-- ---- wider limits

module _ (most terms : ℕ) (less : most ≤ states) (fewer : terms ≤ pool) (rs : List Re) where
  pub wider_built : (t : Table) → build_rules_to most terms rs ≡ gives t → build_rules rs ≡ gives t
  unfolding build_rules
  wider_built t = wider_gives (alone_to most terms) states pool less fewer built_of (λ r. refl) rs t

  pub wider_long : (at : ℕ) → build_rules_to most terms rs ≡ refuses (Long at) → build_rules rs ≡ refuses (Long at)
  unfolding build_rules
  wider_long at =
      wider_refuses (alone_to most terms) states pool less fewer built_of (λ r. refl) rs (Long at) (long_stays (alone_to most terms) at (λ p e. omega arith))
