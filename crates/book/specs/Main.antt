-- The theorems of this layer that are bought, together; each is proved in the file that its proof names.
-- To believe them, read only the definitions: Book to Postfix in the order of Lib, and those of number and meaning that they name.
use Rattle.std.specs.Prelude.{ℕ, ◌+◌, ◌*◌, ◌≤◌, ◌<◌, ◌≡◌, refl, ◌↔◌, ◌⊎◌, length, drop, Option, Some, None, Result, Ok, Err}
use mathlib.Core.List.{List, [], ◌∷◌, ◌++◌, map, flatten}
use Rattle.number.specs.declared.Refusal.{Refusal}
use Rattle.number.specs.Limits.{rules, nodes}
use Rattle.number.specs.Refused.{number, place, row_of, row_read}
use Rattle.number.specs.Refused.Answer.{got, refused}
use Rattle.number.specs.Numbers.{Bytes}
use Rattle.meaning.specs.Re.{Re, Text, size}
use Rattle.meaning.specs.Means.{Matches}
use Rattle.meaning.specs.Sample.{W}
use Rattle.book.specs.declared.Node.{Node}
use Rattle.book.specs.declared.Node.TheVariants.{Either, And, Not}
use Rattle.book.specs.Book.{Rule, Book, write_node, write_nodes, write_rules, write_book}
use Rattle.book.specs.Reads.{read_node, read_book}
use Rattle.book.specs.Valid.{CodesUpTo, Within, ValidRule, ValidBook}
use Rattle.book.specs.Expression.{run_nodes, top, expression, meant}
use Rattle.book.specs.Sample.{w_bytes, w_book, w_length, w_reads, w_writes, w_means}
use Rattle.book.specs.Sample.{w_second_bytes, w_second_book, w_second_length, w_second_reads, w_second_writes, w_second_means}
use Rattle.book.specs.Places.{rule_of, nodes_at}
use Rattle.book.specs.Calls.{checked, check_of, kind_told, kind_of}
use Rattle.book.specs.Seven.{seven_bytes, seven_book, seven_rules, seven_length, seven_reads, seven_writes, seven_means}
use Rattle.book.specs.Nine.{nine_bytes, nine_book, nine_rules, nine_length, nine_reads, nine_writes, nine_means}
use Rattle.book.specs.Refusals.{told, stated, lines, lines_told}
use Rattle.book.specs.Asked.{replied, expected, asked, all_replied}
use Rattle.book.specs.Faults.{Faulty}
use Rattle.book.specs.Postfix.{postfix, AllOfBytes, BookFor}
use Rattle.book.specs.ReadLawsWritten.{node_written}
use Rattle.book.specs.ReadLaws.{book_written, book_read, book_exact, book_one, book_valid, book_none, book_refused}
use Rattle.book.specs.ReadLawsPlaces.{rule_in_lem}
use Rattle.book.specs.ExpressionLaws.{run_whole, expression_size}
use Rattle.book.specs.PostfixLaws.{postfix_run, postfix_size, book_for, either_means, and_means, not_means}
use Rattle.book.specs.VersionLaws.{codes_first, codes_second, node_allowed, first_neither, book_second}
use Rattle.book.specs.FaultLaws.{faulty_exact}
use Rattle.book.specs.CallLaws.{check_read, kind_read, kind_past, check_refused, kind_refused, check_row, kind_row}

-- what is written for a valid book is read as that book, to its end
pub what_was_written : (b : Book) → ValidBook b → read_book (write_book b) ≡ got b (length (write_book b))
what_was_written = book_written

-- what is read is a valid book, and the file is what is written for it, all of it
pub what_is_read : (file : List ℕ) (b : Book) (after : ℕ) → Bytes file → read_book file ≡ got b after
    → ValidBook b × (write_book b ≡ file) × (after ≡ length file)
what_is_read file b after all e = let h = book_read file b after all e in (h.valid, h.writes, h.whole)

-- both at once: exactly the valid books are read, each from exactly its own bytes
pub the_books : (file : List ℕ) (b : Book) → Bytes file → (read_book file ≡ got b (length file)) ↔ (ValidBook b × (write_book b ≡ file))
the_books = book_exact

pub one_book : (b c : Book) → ValidBook b → ValidBook c → write_book b ≡ write_book c → b ≡ c
one_book = book_one

-- a refusal is one of Short, Number, Range, Stack, Tail and Padded, its place is in the file or at its end, and no valid book is refused
pub record Refuses (file : List ℕ) (r : Refusal) : Type 0 where
  pub one_of_six : ((1 ≤ number r) × (number r ≤ 5)) ⊎ (number r ≡ 15)
  pub near : place r ≤ length file
  pub rightly : (b : Book) → ValidBook b → write_book b ≡ file → ⊥

pub the_refusals : (file : List ℕ) (r : Refusal) → read_book file ≡ refused r → Refuses file r
the_refusals file r e =
    let f = book_refused file r e in
    record { one_of_six = f.row; near = f.near; rightly = λ b. book_none file r b e }

-- the nodes of a valid rule leave its expression and nothing else, and as a tree it has at most twice as many nodes, and one
pub the_expression : (v : ℕ) (r : Rule) → ValidRule v r → (run_nodes r.nodes [] ≡ expression r ∷ []) × (size (expression r) ≤ 2 * length r.nodes + 1)
the_expression v r h = (run_whole v r h, expression_size v r h)

-- where the nodes of rule i stand in a book that was read, and what follows them
pub the_places : (file : List ℕ) (b : Book) (after i : ℕ) → Bytes file → read_book file ≡ got b after → i < length b.rules
    → drop (nodes_at b i) file ≡ write_nodes (rule_of b i).nodes ++ write_rules (drop (i + 1) b.rules)
the_places file b after i all e l = (rule_in_lem file b after i all e l).nodes_stand

-- and a node that stands somewhere is read there
pub the_nodes : (file : List ℕ) (v : ℕ) (n : Node) (at : ℕ) (t : List ℕ) → Within v n → drop at file ≡ write_node n ++ t
    → read_node file v at ≡ got n (at + length (write_node n))
the_nodes = node_written

-- a sample book, of so many bytes: these are read as it, it is written as them, it is valid, and its rules mean this row
pub record SampleBook (n : ℕ) (bytes : List ℕ) (b : Book) (row : List Re) : Type 0 where
  pub long : length bytes ≡ n
  pub reads : read_book bytes ≡ got b n
  pub writes : write_book b ≡ bytes
  pub valid : ValidBook b
  pub means : meant b ≡ row

-- the sample book W of document 01
pub the_sample_book : SampleBook 36 w_bytes w_book W
the_sample_book =
    record { long = w_length; reads = w_reads; writes = w_writes; valid = (book_valid w_bytes w_book 36 w_reads).0; means = w_means }

-- and the same rules in a book of version 2
pub the_later_sample_book : SampleBook 36 w_second_bytes w_second_book W
the_later_sample_book =
    record {
      long = w_second_length;
      reads = w_second_reads;
      writes = w_second_writes;
      valid = (book_valid w_second_bytes w_second_book 36 w_second_reads).0;
      means = w_second_means;
    }

-- a second one, with all seven nodes of version 1 and with numbers of two groups
pub the_second_book : SampleBook 55 seven_bytes seven_book seven_rules
the_second_book =
    record {
      long = seven_length;
      reads = seven_reads;
      writes = seven_writes;
      valid = (book_valid seven_bytes seven_book 55 seven_reads).0;
      means = seven_means;
    }

-- a third one, of version 2, with all nine nodes
pub the_third_book : SampleBook 68 nine_bytes nine_book nine_rules
the_third_book =
    record {
      long = nine_length;
      reads = nine_reads;
      writes = nine_writes;
      valid = (book_valid nine_bytes nine_book 68 nine_reads).0;
      means = nine_means;
    }

-- an expression's postfix, a node for each of its tree's, leaves that expression on top of whatever stands there
pub the_postfix : (r : Re) (stack : List Re) → (run_nodes (postfix r) stack ≡ r ∷ stack) × (length (postfix r) ≡ size r)
the_postfix r stack = (postfix_run r stack, postfix_size r)

-- so any expressions are the rules of some book, if they are 1 to 32, their ranges are of bytes, and they have at most 512 nodes together
pub the_expressions : (row : List Re) → 1 ≤ length row → length row ≤ rules → AllOfBytes row → length (flatten (map postfix row)) ≤ nodes
    → BookFor row
the_expressions = book_for

-- an Either matches its letter and the capital, which stands 32 below, and no other text
pub the_either : (x y : ℕ) (stack : List Re) (w : Text) → x ≡ y + 32
    → ((w ≡ x ∷ []) ⊎ (w ≡ y ∷ [])) ↔ Matches (top (run_nodes (Either x ∷ []) stack)) w
the_either = either_means

-- an And matches what both its terms match, and a Not what its term does not
pub the_and : (a b : Re) (stack : List Re) (w : Text) → (Matches a w × Matches b w) ↔ Matches (top (run_nodes (And ∷ []) (b ∷ a ∷ stack))) w
the_and = and_means

pub the_not : (a : Re) (stack : List Re) (w : Text) → (Matches a w → ⊥) ↔ Matches (top (run_nodes (Not ∷ []) (a ∷ stack))) w
the_not = not_means

-- version 1 has the codes up to 6, version 2 those up to 8, and neither has any other
pub the_codes : CodesUpTo 1 6 × CodesUpTo 2 8
the_codes = (codes_first, codes_second)

-- so no node of a book of version 1 that is read is an And or a Not
pub the_first_version : (file : List ℕ) (b : Book) (after : ℕ) → read_book file ≡ got b after → b.version ≡ 1
    → (before behind : List Rule) (q : Rule) → b.rules ≡ before ++ (q ∷ behind)
    → (front back : List Node) (n : Node) → q.nodes ≡ front ++ (n ∷ back) → (n ≡ And → ⊥) × (n ≡ Not → ⊥)
the_first_version file b after e one before behind q f front back n g =
    first_neither b.version n one (node_allowed b (book_valid file b after e).0 before behind q f front back n g)

-- and any book that is valid is so too as one of version 2, with the same rules, which mean the same
pub the_second_version : (b : Book) → ValidBook b
    → ValidBook (record { version = 2; rules = b.rules }) × (meant (record { version = 2; rules = b.rules }) ≡ meant b)
the_second_version b h = (book_second b h, refl)

-- which refusal, and where, for every file: it is refused by r exactly where it is faulty so, told by what stands in it before the fault
pub the_faults : (file : List ℕ) (r : Refusal) → Bytes file → (read_book file ≡ refused r) ↔ Faulty file r
the_faults = faulty_exact

-- and computed: the files of the list, each with the table's number and place, and books that are read
pub the_refused_files : map told lines ≡ map stated lines
the_refused_files = lines_told

-- what the two calls answer on a file that is read as b, and that they answer nothing else: the rule count and all nodes together; the kind of
-- the rule that has so many before it; and past the last rule that there is none
pub record ReadCalls (file : List ℕ) (b : Book) : Type 0 where
  pub check : (r : Result (ℕ × ℕ) Refusal) → (checked r ≡ check_of file) ↔ (r ≡ Ok (length b.rules, length (flatten (map (λ (q : Rule). q.nodes) b.rules))))
  pub rule : (before behind : List Rule) (q : Rule) → b.rules ≡ before ++ (q ∷ behind) → (k : Result (Option ℕ) Refusal)
      → (kind_told k ≡ kind_of file (length before)) ↔ (k ≡ Ok (Some q.kind))
  pub past : (i : ℕ) → length b.rules ≤ i → (k : Result (Option ℕ) Refusal) → (kind_told k ≡ kind_of file i) ↔ (k ≡ Ok None)

-- and on a file that is refused: that refusal, whatever rule is asked for
pub record RefusedCalls (file : List ℕ) (q : Refusal) : Type 0 where
  pub check : (r : Result (ℕ × ℕ) Refusal) → (checked r ≡ check_of file) ↔ (r ≡ Err q)
  pub rule : (i : ℕ) (k : Result (Option ℕ) Refusal) → (kind_told k ≡ kind_of file i) ↔ (k ≡ Err q)

-- for every file; and both calls refuse by the number and at the place that reading the file comes to
pub record BookCalls (file : List ℕ) : Type 0 where
  pub read : (b : Book) (after : ℕ) → read_book file ≡ got b after → ReadCalls file b
  pub refuse : (q : Refusal) → read_book file ≡ refused q → RefusedCalls file q
  pub check_row : row_of (check_of file) ≡ row_read (read_book file)
  pub rule_row : (i : ℕ) → row_of (kind_of file i) ≡ row_read (read_book file)

pub the_book_calls : (file : List ℕ) → BookCalls file
the_book_calls file =
    record {
      read = λ b after e. record { check = check_read file b after e; rule = kind_read file b after e; past = kind_past file b after e };
      refuse = λ q e. record { check = check_refused file q e; rule = kind_refused file q e };
      check_row = check_row file;
      rule_row = kind_row file;
    }

-- the same computed for the sample books, past their ends, and for W a byte short and a byte too long
pub the_asked_books : map replied asked ≡ map expected asked
the_asked_books = all_replied
