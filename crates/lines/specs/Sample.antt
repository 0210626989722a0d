-- Every kind of line, printed by hand: document 01's own, numbers of one digit and of many, every refusal, every hexadecimal digit.
-- Main has the theorem that the definitions print so; the checker computes it.
use Rattle.std.specs.Prelude.{ℕ, List, [], ◌∷◌}
use Prim.Native.String.{String}
use Rattle.number.specs.declared.Refusal.TheVariants.{Short, Number, Range, Stack, Tail, Long, Pool, States, Runs, Loaded, Room, Pairs, Input, Typed, Padded}
use Rattle.number.specs.Quoted.{quoted}
use Rattle.lines.specs.Lines.{word_line, done_line, stuck_line, refused_line, same_line, differs_line, hex_line}

-- the bytes of a line, and how it looks
pub data Line : Type 0 where
  prints : List ℕ → String → Line

abbrev pub printed : Line → List ℕ
printed (prints w looks) = w

abbrev pub stated : Line → List ℕ
stated (prints w looks) = quoted looks

unfoldable pub lines : List Line
lines =
    -- words: document 01's, then numbers about each power of ten, and about 2 to the 16th
    prints (word_line 3 3 1 2) "3 3 1 2\n" ∷
    prints (word_line 0 9 10 11) "0 9 10 11\n" ∷
    prints (word_line 99 100 101 120) "99 100 101 120\n" ∷
    prints (word_line 999 1000 31 16383) "999 1000 31 16383\n" ∷
    prints (word_line 32767 65535 65536 99999) "32767 65535 65536 99999\n" ∷
    -- the last line of a cut
    prints (done_line 5) "done 5\n" ∷
    prints (done_line 0) "done 0\n" ∷
    prints (done_line 32768) "done 32768\n" ∷
    prints (stuck_line 7) "stuck 7\n" ∷
    prints (stuck_line 0) "stuck 0\n" ∷
    prints (stuck_line 32767) "stuck 32767\n" ∷
    -- refusals
    prints (refused_line (Short 0)) "refused 1 0\n" ∷
    prints (refused_line (Number 36)) "refused 2 36\n" ∷
    prints (refused_line (Range 105)) "refused 3 105\n" ∷
    prints (refused_line (Stack 9)) "refused 4 9\n" ∷
    prints (refused_line (Tail 4096)) "refused 5 4096\n" ∷
    prints (refused_line (Long 0)) "refused 6 0\n" ∷
    prints (refused_line (Pool 254)) "refused 7 254\n" ∷
    prints (refused_line (States 10)) "refused 8 10\n" ∷
    prints (refused_line (Runs 65535)) "refused 9 65535\n" ∷
    prints (refused_line Loaded) "refused 10 0\n" ∷
    prints (refused_line Room) "refused 11 0\n" ∷
    prints (refused_line (Pairs 511)) "refused 12 511\n" ∷
    prints (refused_line Input) "refused 13 0\n" ∷
    prints (refused_line (Typed 32768)) "refused 14 32768\n" ∷
    prints (refused_line (Padded 4095)) "refused 15 4095\n" ∷
    -- comparisons
    prints same_line "same\n" ∷
    prints (differs_line 2 1 2) "differs 2 1 2\n" ∷
    prints (differs_line 512 32 0) "differs 512 32 0\n" ∷
    -- texts in hexadecimal: none, `to`, the bytes at the ends, and every digit
    prints (hex_line []) "\n" ∷
    prints (hex_line (0x74 ∷ 0x6F ∷ [])) "746f\n" ∷
    prints (hex_line (0x00 ∷ 0x0F ∷ 0xF0 ∷ 0xFF ∷ [])) "000ff0ff\n" ∷
    prints (hex_line (0x01 ∷ 0x23 ∷ 0x45 ∷ 0x67 ∷ 0x89 ∷ 0xAB ∷ 0xCD ∷ 0xEF ∷ [])) "0123456789abcdef\n" ∷ []
