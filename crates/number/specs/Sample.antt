-- Numbers of files worked by hand: document 01's own, each width from both sides, and fields at their bounds, with what is answered of each; and how many groups are told of a number.
-- proofs/Main.antt has the theorems that the readers answer and tell so; the checker computes them.
use Rattle.std.specs.Prelude.{ℕ, zero, suc, List, [], ◌∷◌, ◌++◌}
use Rattle.number.specs.Refused.{Answer, number, place}
use Rattle.number.specs.Refused.Answer.{got, refused}
use Rattle.number.specs.Numbers.{read_number, groups_read, field}
use Rattle.number.specs.Reading.{Reader}

-- the same bytes so many times, for the lists of files above
unfoldable pub repeated : ℕ → List ℕ → List ℕ
repeated zero bytes = []
repeated (suc n) bytes = bytes ++ repeated n bytes

-- what is told: a value and the place after it, or a refusal's number and its place
pub data Told : Type 0 where
  value : ℕ → ℕ → Told
  refusal : ℕ → ℕ → Told

abbrev pub told : Answer ℕ → Told
told (got n next) = value n next
told (refused r) = refusal (number r) (place r)

-- a line: a reader over a file, the place where it starts, and what is stated
pub data Line : Type 0 where
  reads : Reader ℕ → ℕ → Told → Line

abbrev pub answered : Line → Told
answered (reads reader at x) = told (reader at)

abbrev pub stated : Line → Told
stated (reads reader at x) = x

unfoldable pub read_lines : List Line
read_lines =
    -- one group, two, three: the lowest and the highest of each, and document 01's 300
    reads (read_number (0x00 ∷ [])) 0 (value 0 1) ∷
    reads (read_number (0x7F ∷ [])) 0 (value 127 1) ∷
    reads (read_number (0x80 ∷ 0x01 ∷ [])) 0 (value 128 2) ∷
    reads (read_number (0xAC ∷ 0x02 ∷ [])) 0 (value 300 2) ∷
    reads (read_number (0xFF ∷ 0x7F ∷ [])) 0 (value 16383 2) ∷
    reads (read_number (0x80 ∷ 0x80 ∷ 0x01 ∷ [])) 0 (value 16384 3) ∷
    reads (read_number (0xFF ∷ 0xFF ∷ 0x7F ∷ [])) 0 (value 2097151 3) ∷
    -- from a place on, and what follows does not matter
    reads (read_number (0x05 ∷ 0xAC ∷ 0x02 ∷ 0x80 ∷ [])) 1 (value 300 3) ∷
    reads (read_number (0x05 ∷ 0x80 ∷ 0x80 ∷ 0x01 ∷ 0x00 ∷ [])) 1 (value 16384 4) ∷
    -- the input ends where the first byte is due, the second, the third; and past its end
    reads (read_number []) 0 (refusal 1 0) ∷
    reads (read_number (0x80 ∷ [])) 0 (refusal 1 0) ∷
    reads (read_number (0x80 ∷ 0x80 ∷ [])) 0 (refusal 1 0) ∷
    reads (read_number (0x05 ∷ 0xFF ∷ 0xFF ∷ [])) 1 (refusal 1 1) ∷
    reads (read_number (0x05 ∷ [])) 7 (refusal 1 7) ∷
    -- the last of several groups is 0, whatever the others are; the third group goes on, whatever follows
    reads (read_number (0x80 ∷ 0x00 ∷ [])) 0 (refusal 15 0) ∷
    reads (read_number (0x80 ∷ 0x80 ∷ 0x00 ∷ [])) 0 (refusal 15 0) ∷
    reads (read_number (0xFF ∷ 0x00 ∷ [])) 0 (refusal 15 0) ∷
    reads (read_number (0x81 ∷ 0xFF ∷ 0x00 ∷ 0x01 ∷ [])) 0 (refusal 15 0) ∷
    reads (read_number (0x80 ∷ 0x80 ∷ 0x80 ∷ [])) 0 (refusal 2 0) ∷
    reads (read_number (0x80 ∷ 0x80 ∷ 0x80 ∷ 0x00 ∷ [])) 0 (refusal 2 0) ∷
    reads (read_number (0xFF ∷ 0xFF ∷ 0xFF ∷ 0x01 ∷ [])) 0 (refusal 2 0) ∷
    reads (read_number (0x05 ∷ 0x05 ∷ 0x80 ∷ 0x00 ∷ [])) 2 (refusal 15 2) ∷
    -- a field from 1 to 32: below, its lowest, its highest, above
    reads (field (0x00 ∷ []) 1 32) 0 (refusal 3 0) ∷
    reads (field (0x01 ∷ []) 1 32) 0 (value 1 1) ∷
    reads (field (0x20 ∷ []) 1 32) 0 (value 32 1) ∷
    reads (field (0x21 ∷ []) 1 32) 0 (refusal 3 0) ∷
    -- a kind: 16,383 and 16,384; letters from 97 to 122; at its own place
    reads (field (0xFF ∷ 0x7F ∷ []) 0 16383) 0 (value 16383 2) ∷
    reads (field (0x80 ∷ 0x80 ∷ 0x01 ∷ []) 0 16383) 0 (refusal 3 0) ∷
    reads (field (0x06 ∷ 0x60 ∷ []) 97 122) 1 (refusal 3 1) ∷
    reads (field (0x06 ∷ 0x61 ∷ []) 97 122) 1 (value 97 2) ∷
    reads (field (0x06 ∷ 0x7A ∷ []) 97 122) 1 (value 122 2) ∷
    reads (field (0x06 ∷ 0x7B ∷ []) 97 122) 1 (refusal 3 1) ∷
    -- Short, Number and Padded come before Range: each of these would be out of its field
    reads (field [] 1 32) 0 (refusal 1 0) ∷
    reads (field (0x80 ∷ []) 1 32) 0 (refusal 1 0) ∷
    reads (field (0x80 ∷ 0x00 ∷ []) 1 32) 0 (refusal 15 0) ∷
    reads (field (0xA1 ∷ 0x80 ∷ 0x00 ∷ []) 1 32) 0 (refusal 15 0) ∷
    reads (field (0xFF ∷ 0xFF ∷ 0x80 ∷ []) 1 32) 0 (refusal 2 0) ∷ []

-- a file, the place where a number starts, and the groups that are told of it
pub data GroupLine : Type 0 where
  groups : List ℕ → ℕ → ℕ → GroupLine

abbrev pub groups_told : GroupLine → ℕ
groups_told (groups file at k) = groups_read file at

abbrev pub groups_stated : GroupLine → ℕ
groups_stated (groups file at k) = k

unfoldable pub group_lines : List GroupLine
group_lines =
    -- numbers of one group, two and three, from a place on and whatever follows
    groups (0x00 ∷ []) 0 1 ∷
    groups (0x7F ∷ 0x80 ∷ []) 0 1 ∷
    groups (0xAC ∷ 0x02 ∷ []) 0 2 ∷
    groups (0x05 ∷ 0x80 ∷ 0x80 ∷ 0x01 ∷ 0x00 ∷ []) 1 3 ∷
    -- short: those that are there
    groups [] 0 0 ∷
    groups (0x05 ∷ []) 7 0 ∷
    groups (0x80 ∷ []) 0 1 ∷
    groups (0x05 ∷ 0xFF ∷ 0xFF ∷ []) 1 2 ∷
    -- a third group that goes on: three, and never a fourth
    groups (0x80 ∷ 0x80 ∷ 0x80 ∷ []) 0 3 ∷
    groups (0xFF ∷ 0xFF ∷ 0xFF ∷ 0x01 ∷ []) 0 3 ∷
    -- padded with a last group 0: two or three
    groups (0x80 ∷ 0x00 ∷ []) 0 2 ∷
    groups (0x05 ∷ 0x81 ∷ 0x00 ∷ 0x05 ∷ []) 1 2 ∷
    groups (0x80 ∷ 0x80 ∷ 0x00 ∷ []) 0 3 ∷ []
