-- The theorems on numbers in files that are bought, together: every limit and every refusal by its number; reading and writing undo each other; exactly what is wrong is refused; what writing leaves in memory.
-- To believe them, read Limits, Refused, Rows, Numbers, Faults, Reading, Lists and Sample. Each proof names its law, which stands in the file of that matter.
use Rattle.std.specs.Prelude.{ℕ, ◌+◌, ◌<◌, ◌≤◌, ◌≡◌, refl, ◌↔◌, List, [], ◌∷◌, ◌++◌, map, length, take, drop}
use Rattle.std.proofs.Common.{arith, subst}
use Rattle.number.specs.declared.Refusal.{Refusal}
use Rattle.number.specs.declared.Refusal.TheVariants.{Number, Tail, Padded}
use Rattle.number.specs.Limits.{group, two_groups, three_groups, first_version, last_version, sheet_version, rules, kinds, nodes}
use Rattle.number.specs.Limits.{code_nothing, code_empty, code_range, code_cat, code_alt, code_star, code_either, code_and, code_not, bytes, last_byte}
use Rattle.number.specs.Limits.{first_letter, last_letter, capital, states, table_cells, tree_nodes, pool, pairs, shown_text}
use Rattle.number.specs.Limits.{work_cells, scratch, deep, typed_area, book_file, text_file, sheet_file, rules_file}
use Rattle.number.specs.Refused.{number, place, row_of, row_read}
use Rattle.number.specs.Refused.Answer.{got, refused}
use Rattle.number.specs.Refused.Outcome.{gives, refuses}
use Rattle.number.specs.Refused.Row.{no_row, row}
use Rattle.number.specs.Rows.{refusals_at, refusal_of}
use Rattle.std.proofs.Common.{Ok, Err}
use Rattle.number.specs.Numbers.{Bytes, taken, due, several, read_number, groups_of, groups_read, within, field, write_number, NumberAt, FieldAt}
use Rattle.number.specs.Faults.{NumberFault, RunsOn, PaddedTo, FieldFault}
use Rattle.number.specs.Reading.{Reader, ◌>>=◌, ◌>>◌, end}
use Rattle.number.specs.Lists.{written, Writes, written_length, before_written, there_written, past_written, only_written}
use Rattle.number.specs.Sample.{answered, stated, read_lines, groups_told, groups_stated, group_lines}
use Rattle.number.specs.RowLaws.{row_back, row_one}
use Rattle.number.proofs.NumberLaws.{read_written, written_read, groups_read_lem, groups_written, field_written, field_read}
use Rattle.number.proofs.FaultLaws.{refused_fault, fault_refused, refused_runs_on, runs_on_refused, refused_padded, padded_refused, refused_field, field_fault}
use Rattle.number.specs.MainLaws.{written_room, bytes_none, bytes_more, end_tail, end_none}

-- ---- limits and refusals

-- every limit by its number
pub record LimitNumbers : Type 0 where
  pub groups : (group ≡ 128) × (two_groups ≡ 16384) × (three_groups ≡ 2097152)
  pub versions : (first_version ≡ 1) × (last_version ≡ 2) × (sheet_version ≡ 1)
  pub books : (rules ≡ 32) × (kinds ≡ 16383) × (nodes ≡ 512)
  pub leaf_codes : (code_nothing ≡ 0) × (code_empty ≡ 1) × (code_range ≡ 2) × (code_either ≡ 6)
  pub operator_codes : (code_cat ≡ 3) × (code_alt ≡ 4) × (code_star ≡ 5) × (code_and ≡ 7) × (code_not ≡ 8)
  pub of_bytes : (bytes ≡ 256) × (last_byte ≡ 255)
  pub letters : (first_letter ≡ 97) × (last_letter ≡ 122) × (capital ≡ 32)
  pub tables : (states ≡ 255) × (table_cells ≡ 65280)
  pub walks : (tree_nodes ≡ 255) × (pool ≡ 2048) × (pairs ≡ 512) × (shown_text ≡ 512)
  pub areas : (work_cells ≡ 65536) × (scratch ≡ 34816)
  pub typed : (deep ≡ 32) × (typed_area ≡ 4096)
  pub files : (book_file ≡ 4096) × (text_file ≡ 32768) × (sheet_file ≡ 65536) × (rules_file ≡ 32768)

pub the_limits : LimitNumbers
the_limits =
    record {
      groups = (refl, refl, refl);
      versions = (refl, refl, refl);
      books = (refl, refl, refl);
      leaf_codes = (refl, refl, refl, refl);
      operator_codes = (refl, refl, refl, refl, refl);
      of_bytes = (refl, refl);
      letters = (refl, refl, refl);
      tables = (refl, refl);
      walks = (refl, refl, refl, refl);
      areas = (refl, refl);
      typed = (refl, refl);
      files = (refl, refl, refl, refl);
    }

-- the table of numbered refusals: number and place of each, in what a call answers; in a reader's answer they are the same, and an answer has none
pub record RefusalRows (A : Type 0) : Type 0 where
  pub rows : (at : ℕ) → map (λ (r : Refusal). row_of {A = A} (refuses r)) (refusals_at at) ≡
      row 1 at ∷ row 2 at ∷ row 3 at ∷ row 4 at ∷ row 5 at ∷ row 6 at ∷ row 7 at ∷ row 8 at ∷ row 9 at ∷
      row 10 0 ∷ row 11 0 ∷ row 12 at ∷ row 13 0 ∷ row 14 at ∷ row 15 at ∷ []
  pub read : (r : Refusal) → row_read {A = A} (refused r) ≡ row_of {A = A} (refuses r)
  pub answers : (x : A) (next : ℕ) → (row_of (gives x) ≡ no_row) × (row_read (got x next) ≡ no_row)

pub the_refusals : (A : Type 0) → RefusalRows A
the_refusals A = record { rows = λ at. refl; read = λ r. refl; answers = λ x next. (refl, refl) }

-- number and place fix a refusal, and tell it
pub one_row : (q r : Refusal) → row (number q) (place q) ≡ row (number r) (place r) → q ≡ r
one_row = row_one

pub the_named_refusal : (r : Refusal) → refusal_of (number r) (place r) ≡ r
the_named_refusal r = (row_back r).back

-- ---- numbers

-- a file is a list of numbers below 256
pub record ByteLists : Type 0 where
  pub none : Bytes []
  pub more : (x : ℕ) (s : List ℕ) → Bytes (x ∷ s) ↔ ((x < 256) × Bytes s)

pub the_bytes : ByteLists
the_bytes = record { none = bytes_none; more = bytes_more }

-- numbers of one, two and three groups, written
pub the_numbers : map write_number (0 ∷ 127 ∷ 128 ∷ 300 ∷ 16383 ∷ 16384 ∷ 2097151 ∷ []) ≡
    (0x00 ∷ []) ∷ (0x7F ∷ []) ∷ (0x80 ∷ 0x01 ∷ []) ∷ (0xAC ∷ 0x02 ∷ []) ∷ (0xFF ∷ 0x7F ∷ []) ∷
    (0x80 ∷ 0x80 ∷ 0x01 ∷ []) ∷ (0xFF ∷ 0xFF ∷ 0x7F ∷ []) ∷ []
unfolding write_number
the_numbers = refl

-- numbers and fields worked by hand, each with its value and the place after it or with its refusal
pub the_read_lines : map answered read_lines ≡ map stated read_lines
unfolding read_lines field within read_number due several
the_read_lines = refl

-- and of numbers worked by hand, right and refused ones, how many groups are told
pub the_group_lines : map groups_told group_lines ≡ map groups_stated group_lines
unfolding group_lines groups_read groups_of
the_group_lines = refl

-- what was written is read, whatever follows it, and the place after it is told
pub the_written_number : (n : ℕ) (s : List ℕ) (at : ℕ) (t : List ℕ) → n < three_groups → drop at s ≡ write_number n ++ t
    → read_number s at ≡ got n (at + length (write_number n))
the_written_number = read_written

-- what is read stands there as it would be written: the shortest form only
pub the_read_number : (s : List ℕ) (at n next : ℕ) → Bytes s → read_number s at ≡ got n next → NumberAt s at n next
the_read_number = written_read

-- the groups of a number: as many as it is written in, and the place after it is so far on
pub the_written_groups : (n : ℕ) (s : List ℕ) (at : ℕ) (t : List ℕ) → n < three_groups → drop at s ≡ write_number n ++ t
    → groups_read s at ≡ length (write_number n)
the_written_groups = groups_written

pub the_read_groups : (s : List ℕ) (at n next : ℕ) → read_number s at ≡ got n next
    → (next ≡ at + groups_read s at) × (groups_read s at ≡ length (write_number n))
the_read_groups = groups_read_lem

-- exactly what is wrong is refused, Short, Number or Padded, at the number's first byte, and the groups that are told are those that were read
pub the_refused_number : (s : List ℕ) (at : ℕ) (r : Refusal) (k : ℕ)
    → ((read_number s at ≡ refused r) × (groups_read s at ≡ k)) ↔ NumberFault s at r k
the_refused_number s at r k = (λ both. subst (NumberFault s at r) both.1 (refused_fault s at r both.0), fault_refused s at r k)

-- the two reasons for a bad number, each by itself: Number exactly where three bytes of 128 and up stand; Padded exactly where two or three groups
-- stand of which the last is 0, and then so many are told
pub record TwoReasons (s : List ℕ) (at : ℕ) : Type 0 where
  pub runs_on : (read_number s at ≡ refused (Number at)) ↔ RunsOn s at
  pub padded : (k : ℕ) → ((read_number s at ≡ refused (Padded at)) × (groups_read s at ≡ k)) ↔ PaddedTo s at k

pub the_two_reasons : (s : List ℕ) (at : ℕ) → TwoReasons s at
the_two_reasons s at =
    record {
      runs_on = (refused_runs_on s at, runs_on_refused s at);
      padded = λ k. (λ both. subst (PaddedTo s at) both.1 (refused_padded s at both.0), padded_refused s at k);
    }

-- the same of a field: a number from lo to hi is read, what is read lies there, and exactly what is wrong is refused, Short, Number, Padded or Range
pub the_written_field : (n : ℕ) (s : List ℕ) (lo hi at : ℕ) (t : List ℕ) → n < three_groups → lo ≤ n → n ≤ hi
    → drop at s ≡ write_number n ++ t → field s lo hi at ≡ got n (at + length (write_number n))
the_written_field = field_written

pub the_read_field : (s : List ℕ) (lo hi at n next : ℕ) → field s lo hi at ≡ got n next → FieldAt s lo hi at n next
the_read_field = field_read

pub the_refused_field : (s : List ℕ) (lo hi at : ℕ) (r : Refusal) → Bytes s
    → (field s lo hi at ≡ refused r) ↔ FieldFault s lo hi at r
the_refused_field s lo hi at r all = (refused_field s lo hi at r all, field_fault s lo hi at r)

-- what the code answers is this: a value and the place after it as they are, a refusal as it is
pub the_answers : ((value next : ℕ) → taken (Ok (value, next)) ≡ got value next) × ((r : Refusal) → taken (Err r) ≡ refused r)
the_answers = (λ value next. refl, λ r. refl)

-- ---- files

-- a refusal ends the reading at once, what is got is handed on with the place that was reached, and spare bytes are refused at the first
module _ {A B : Type 0} (m : Reader A) (f : A → Reader B) (n : Reader B) (at : ℕ) where
  pub record Readers : Type 0 where
    pub ends : (r : Refusal) → m at ≡ refused r → ((m >>= f) at ≡ refused r) × ((m >> n) at ≡ refused r)
    pub on : (x : A) (next : ℕ) → m at ≡ got x next → ((m >>= f) at ≡ f x next) × ((m >> n) at ≡ n next)

  pub the_readers : Readers
  the_readers = record { ends = λ r e. (rw e, rw e); on = λ x next e. (rw e, rw e) }

pub the_end : (file : List ℕ) (at : ℕ)
    → (at < length file → end file at ≡ refused (Tail at)) × (length file ≤ at → end file at ≡ got tt at)
the_end file at = (end_tail file at, end_none file at)

-- ---- memory

-- w stands in an area from a place on: the area has its length, and before w and behind it everything is as it was
pub record Put (w before after : List ℕ) (at : ℕ) : Type 0 where
  pub size : length after ≡ length before
  pub front : take at after ≡ take at before
  pub there : take (length w) (drop at after) ≡ w
  pub behind : drop (at + length w) after ≡ drop (at + length w) before

-- this is what writing leaves, and nothing else is, where there is room; an area that is too short would not keep its length, so no call promises that
pub record AreaWritten (s : List ℕ) (at : ℕ) (w : List ℕ) : Type 0 where
  pub put : at + length w ≤ length s → Put w s (written s at w) at
  pub only : (t : List ℕ) → Put w s t at → t ≡ written s at w
  pub room : at ≤ length s → length (written s at w) ≡ length s → at + length w ≤ length s

pub the_written_area : (s : List ℕ) (at : ℕ) (w : List ℕ) → AreaWritten s at w
the_written_area s at w =
    record {
      put = λ room.
          let there : at ≤ length s = omega arith in
          record {
            size = written_length s at w room;
            front = before_written s at w there;
            there = there_written s at w there;
            behind = past_written s at w there;
          };
      only = λ t p. only_written s t at w p.front p.there p.behind;
      room = written_room s at w;
    }

-- and so of a writer, which answers the place after what it wrote
pub the_writer : {w before after : List ℕ} {at next : ℕ} → Writes w before after at next → at + length w ≤ length before
    → (next ≡ at + length w) × Put w before after at
the_writer {w} {before} {after} {at} done room = (done.place, rw done.out ((the_written_area before at w).put room))
