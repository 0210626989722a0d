-- Laws of write_sheet, one for each of its returns: what is answered and what the output holds are what table's Calls says.
-- A refusal leaves the output as it was.
use Rattle.std.specs.Prelude.{ℕ, ◌*◌, ◌≤◌, ◌<◌, ◌≡◌, refl, Ok, Err, true, false, List, ◌++◌, length, take, drop}
use Rattle.std.proofs.Common.{zero-add, ◌∙◌, lt-ltb, le-ltb}
use Rattle.number.specs.declared.Refusal.TheVariants.{Loaded, Room}
use Rattle.number.specs.Lists.{written, Writes}
use Rattle.table.specs.Table.{lent, well_formed}
use Rattle.table.specs.Sheet.{write_sheet}
use Rattle.number.specs.Limits.{bytes}
use Rattle.table.specs.Promises.{WritesSheet}
use Rattle.writing.specs.WritingLaws.{whole}

-- a run of bytes at the front
written_front : (o w : List ℕ) → written o 0 w ≡ w ++ drop (length w) o
unfolding written
written_front o w = rw zero-add

module _ (s : ℕ) (l t o : List ℕ) where
  pub write_unloaded : false ≡ well_formed s l t → WritesSheet s l t o o (Err Loaded)
  write_unloaded e =
      record {
        answer = simp (← e);
        row = simp (← e);
        out = simp (← e);
      }

  -- the table by its cells alone, which are as many as its count says
  module _ (size : length (take s l) ≡ s) (well : true ≡ well_formed s l t) where
    lent_is : whole (take s l) (take (s * bytes) t) ≡ lent s l t
    lent_is = rw size refl

    pub write_cramped : length o < length (write_sheet (whole (take s l) (take (s * bytes) t))) → WritesSheet s l t o o (Err Room)
    write_cramped k =
        let h : length o < length (write_sheet (lent s l t)) = rw lent_is at k in
        record {
          answer = simp (← well, lt-ltb _ _ h);
          row = simp (← well, lt-ltb _ _ h);
          out = simp (← well, lt-ltb _ _ h);
        }

    pub write_done : {n : ℕ} {o' : List ℕ} → length (write_sheet (whole (take s l) (take (s * bytes) t))) ≤ length o
        → Writes (write_sheet (whole (take s l) (take (s * bytes) t))) o o' 0 n → WritesSheet s l t o o' (Ok n)
    write_done k v =
        let h : length (write_sheet (lent s l t)) ≤ length o = rw lent_is at k in
        let w = rw lent_is at v in
        record {
          answer = simp (← well, le-ltb _ _ h, w.place, zero-add);
          row = simp (← well, le-ltb _ _ h);
          out = simp (← well, le-ltb _ _ h) (w.out ∙ written_front o (write_sheet (lent s l t)));
        }
