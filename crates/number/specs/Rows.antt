-- The table of numbered refusals from its other side: every refusal in the table's order, and the refusal that a number and a place name.
-- Refused says what number and place a refusal has; RowLaws proves that they name it and no other.
use Rattle.std.specs.Prelude.{ℕ, cond, List, [], ◌∷◌, eqb}
use Rattle.number.specs.declared.Refusal.{Refusal}
use Rattle.number.specs.declared.Refusal.TheVariants.{Short, Number, Range, Stack, Tail, Long, Pool, States, Runs, Loaded, Room, Pairs, Input, Typed, Padded}

-- all of them, those that have a place at this one
abbrev pub refusals_at : ℕ → List Refusal
refusals_at at =
    Short at ∷ Number at ∷ Range at ∷ Stack at ∷ Tail at ∷ Long at ∷ Pool at ∷ States at ∷ Runs at ∷ Loaded ∷ Room ∷ Pairs at ∷ Input ∷ Typed at ∷
    Padded at ∷ []

-- the refusal of a number, at a place
abbrev pub refusal_of : ℕ → ℕ → Refusal
refusal_of n at =
    cond (eqb n 1) (Short at)
    (cond (eqb n 2) (Number at)
    (cond (eqb n 3) (Range at)
    (cond (eqb n 4) (Stack at)
    (cond (eqb n 5) (Tail at)
    (cond (eqb n 6) (Long at)
    (cond (eqb n 7) (Pool at)
    (cond (eqb n 8) (States at)
    (cond (eqb n 9) (Runs at)
    (cond (eqb n 10) Loaded
    (cond (eqb n 11) Room
    (cond (eqb n 12) (Pairs at)
    (cond (eqb n 13) Input
    (cond (eqb n 14) (Typed at) (Padded at))))))))))))))
