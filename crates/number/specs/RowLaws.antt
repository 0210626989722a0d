-- A refusal's number and place name it, and its number is never 0, which is the code of a call that gave its answer.
-- So number and place fix the refusal, and whoever has them can tell it.
use Rattle.std.specs.Prelude.{◌≡◌, refl, false, eqb}
use Rattle.number.specs.declared.Refusal.{Refusal}
use Rattle.number.specs.declared.Refusal.TheVariants.{Short, Number, Range, Stack, Tail, Long, Pool, States, Runs, Loaded, Room, Pairs, Input, Typed, Padded}
use Rattle.number.specs.Refused.{number, place}
use Rattle.number.specs.Refused.Row.{row}
use Rattle.number.specs.Rows.{refusal_of}

pub record Named (r : Refusal) : Type 0 where
  pub some : eqb (number r) 0 ≡ false
  pub back : refusal_of (number r) (place r) ≡ r

pub row_back : (r : Refusal) → Named r
row_back (Short at) = record { some = refl; back = refl }
row_back (Number at) = record { some = refl; back = refl }
row_back (Range at) = record { some = refl; back = refl }
row_back (Stack at) = record { some = refl; back = refl }
row_back (Tail at) = record { some = refl; back = refl }
row_back (Long at) = record { some = refl; back = refl }
row_back (Pool at) = record { some = refl; back = refl }
row_back (States at) = record { some = refl; back = refl }
row_back (Runs at) = record { some = refl; back = refl }
row_back Loaded = record { some = refl; back = refl }
row_back Room = record { some = refl; back = refl }
row_back (Pairs at) = record { some = refl; back = refl }
row_back Input = record { some = refl; back = refl }
row_back (Typed at) = record { some = refl; back = refl }
row_back (Padded at) = record { some = refl; back = refl }

pub row_one : (q r : Refusal) → row (number q) (place q) ≡ row (number r) (place r) → q ≡ r
row_one q r e = cc ((row_back q).back, (row_back r).back)
