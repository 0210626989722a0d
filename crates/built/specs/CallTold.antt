-- What a call of build answers and leaves, told in lists: the proofs of the theorems on the call in Main.
-- What a table area looks like afterwards is said in table's Areas; here it comes to books, their builds and the work area.
use Rattle.std.specs.Prelude.{ℕ, ◌<◌, ◌≡◌, refl, Bool, true, false, ◌||◌, List, ltb, length, replicate}
use Rattle.std.proofs.Common.{ap, ◌∙◌, lt-ltb, le-ltb}
use Rattle.number.specs.declared.Refusal.{Refusal}
use Rattle.number.specs.declared.Refusal.TheVariants.{Room}
use Rattle.number.specs.Limits.{states, table_cells}
use Rattle.number.specs.Refused.Answer.{got, refused}
use Rattle.number.specs.Refused.Outcome.{gives, refuses}
use Rattle.book.specs.Book.{Book}
use Rattle.book.specs.Reads.{read_book}
use Rattle.book.specs.Expression.{meant}
use Rattle.table.specs.Table.{Table}
use Rattle.table.specs.Calls.{cramped, untouched}
use Rattle.table.proofs.AreaLaws.{roomy, cramped_labels, cramped_targets, filled_leaves, cleared_leaves, untouched_leaves}
use Rattle.vector.specs.Layout.{work_length}
use Rattle.built.specs.Build.{build_rules}
use Rattle.built.specs.Calls.{build_read, build_book, filled_by, build_of}
use Rattle.built.specs.Bought.{HasRoom, BuildsTable, BuildsNone, ChangesNothing}
use Rattle.built.specs.CallLaws.{build_right}

module _ (file labels targets work : List ℕ) where
  -- ---- with room

  module _ (room : HasRoom labels targets work) where
    with_room : build_of file labels targets work ≡ record { table = filled_by labels targets (build_book file); work = replicate (length work) 0 }
    with_room = simp (roomy labels targets room.all_labels room.all_targets, le-ltb (length work) work_length room.all_work)

    none : (r : Refusal) → build_book file ≡ refuses r → BuildsNone labels targets work r (build_of file labels targets work)
    none r e =
        rw (with_room, e)
        (record { table = cleared_leaves labels targets r; work = refl })

    pub call_refused : (r : Refusal) → read_book file ≡ refused r → BuildsNone labels targets work r (build_of file labels targets work)
    call_refused r e = none r (ap build_read e)

    module _ (b : Book) (after : ℕ) (read : read_book file ≡ got b after) where
      pub call_unbuilt : (r : Refusal) → build_rules (meant b) ≡ refuses r → BuildsNone labels targets work r (build_of file labels targets work)
      call_unbuilt r e = none r (ap build_read read ∙ e)

      pub call_built : (t : Table) → build_rules (meant b) ≡ gives t → BuildsTable labels targets work t (build_of file labels targets work)
      call_built t e =
          let d : build_book file ≡ gives t = ap build_read read ∙ e in
          rw (with_room, d)
          (record {
            table = filled_leaves labels targets t (build_right file b after t read d).formed room.all_labels room.all_targets;
            work = refl;
          })

  -- ---- without

  no_room : (cramped labels targets || ltb (length work) work_length) ≡ true → ChangesNothing labels targets work (build_of file labels targets work)
  no_room e =
      let same : build_of file labels targets work ≡ record { table = untouched labels targets Room; work = work } = simp e in
      rw same (record { table = untouched_leaves labels targets; work = refl })

  or_true : (a b : Bool) → b ≡ true → (a || b) ≡ true
  or_true true b e = refl
  or_true false b e = e

  pub call_few_labels : length labels < states → ChangesNothing labels targets work (build_of file labels targets work)
  call_few_labels h = no_room (simp (cramped_labels labels targets h))

  pub call_few_targets : length targets < table_cells → ChangesNothing labels targets work (build_of file labels targets work)
  call_few_targets h = no_room (simp (cramped_targets labels targets h))

  pub call_short_work : length work < work_length → ChangesNothing labels targets work (build_of file labels targets work)
  call_short_work h = no_room (or_true (cramped labels targets) (ltb (length work) work_length) (lt-ltb (length work) work_length h))
