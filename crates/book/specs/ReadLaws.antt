-- Reading and writing books undo each other: exactly the valid books are read, from exactly the bytes that would be written.
-- So a reader that refuses too much, or too little, contradicts a theorem; the parts are proved in the files named ReadLaws and more.
use Rattle.std.specs.Prelude.{ℕ, ◌+◌, ◌≤◌, ◌≡◌, ◌↔◌, List, [], ◌++◌, length, drop}
use Rattle.std.proofs.Common.{arith, zero-add, sym, ap, ◌∙◌, subst, append-nil, le-ltb}
use Rattle.std.proofs.Math.Seq.{drop-length}
use Rattle.number.specs.declared.Refusal.{Refusal}
use Rattle.number.specs.Limits.{first_version, last_version, rules, nodes}
use Rattle.number.specs.Refused.Answer.{got, refused}
use Rattle.number.specs.Numbers.{Bytes, write_number}
use Rattle.number.proofs.NumberLaws.{field_written}
use Rattle.book.specs.declared.Node.{Node}
use Rattle.book.specs.Book.{Rule, Book, total, write_node, write_nodes, write_rules, write_book}
use Rattle.book.specs.Reads.{read_node, more_nodes, more_rules, book, read_book}
use Rattle.book.specs.Valid.{Within, Leaves, AllValid, ValidBook}
use Rattle.book.specs.ReadLawsSteps.{clash, ByAnswer, Stands, Fault, first, second, past_both}
use Rattle.book.specs.ReadLawsWritten.{rules_written}
use Rattle.book.specs.ReadLawsRead.{ReadsNode, ReadsNodes, ReadsRules, ReadsBook, node_holds, nodes_holds, rules_holds, book_holds}

-- ---- what was written is read

pub book_written : (b : Book) → ValidBook b → read_book (write_book b) ≡ got b (length (write_book b))
unfolding book write_book
book_written b valid =
    let v : List ℕ = write_number b.version in
    let n : List ℕ = write_number (length b.rules) in
    let rs : List ℕ = write_rules b.rules in
    let file : List ℕ = v ++ (n ++ rs) in
    let e0 : drop 0 file ≡ (v ++ (n ++ rs)) ++ [] = sym (append-nil file) in
    let e1 = second file 0 v (n ++ rs) [] e0 in
    let e2 = second file (0 + length v) n rs [] e1 in
    let there : 0 + length v + length n + length rs ≡ length file =
    past_both (0 + length v) n rs ∙ past_both 0 v (n ++ rs) ∙ zero-add (length file) in
    rw (
      field_written b.version file first_version last_version 0 _ (omega (arith, valid.known)) valid.known.0 valid.known.1 (first file 0 v _ _ e0),
      field_written (length b.rules) file 1 rules (0 + length v) _ (omega (arith, valid.few)) valid.some valid.few (first file (0 + length v) n _ _ e1),
      rules_written file b.version b.rules 0 (0 + length v + length n) [] valid.valid (omega (arith, valid.small)) e2,
      there,
      le-ltb (length file) (length file) (omega arith),
    )

-- ---- what is read was written

pub record BookIs (file : List ℕ) (b : Book) (after : ℕ) : Type 0 where
  pub valid : ValidBook b
  pub writes : write_book b ≡ file
  pub whole : after ≡ length file

pub book_read : (file : List ℕ) (b : Book) (after : ℕ) → Bytes file → read_book file ≡ got b after → BookIs file b after
book_read file b after all e =
    let h : ReadsBook file b after = subst (ByAnswer (ReadsBook file) (Fault file)) e (book_holds file) in
    let s : Stands file 0 (write_book b) after = h.read.stands all in
    let nothing : drop after file ≡ [] = rw h.whole (drop-length file) in
    record {
      valid = h.valid;
      writes = sym (s.stands ∙ ap (λ (t : List ℕ). write_book b ++ t) nothing ∙ append-nil (write_book b));
      whole = h.whole;
    }

-- both: a file is read as a book exactly if the book is valid and the file is what is written for it
pub book_exact : (file : List ℕ) (b : Book) → Bytes file → (read_book file ≡ got b (length file)) ↔ (ValidBook b × (write_book b ≡ file))
book_exact file b all = (
  λ e. let h = book_read file b (length file) all e in (h.valid, h.writes),
  λ h. rw (← h.1) (book_written b h.0),
)

-- two valid books that are written alike are one book
pub book_one : (b c : Book) → ValidBook b → ValidBook c → write_book b ≡ write_book c → b ≡ c
book_one b c hb hc e =
    let p : got b (length (write_book b)) ≡ got c (length (write_book c)) = sym (book_written b hb) ∙ ap read_book e ∙ book_written c hc in
    cc

-- what is read is valid, and read to the end, even of a list that is none of bytes
pub book_valid : (file : List ℕ) (b : Book) (after : ℕ) → read_book file ≡ got b after → ValidBook b × (after ≡ length file)
book_valid file b after e =
    let h : ReadsBook file b after = subst (ByAnswer (ReadsBook file) (Fault file)) e (book_holds file) in
    (h.valid, h.whole)

-- ---- refusals

-- what is refused is no valid book
pub book_none : (file : List ℕ) (r : Refusal) (b : Book) → read_book file ≡ refused r → ValidBook b → write_book b ≡ file → ⊥
book_none file r b e valid same = clash (sym e ∙ sym (ap read_book same) ∙ book_written b valid)

-- a refusal is one of the first five or Padded, and its place is within the file or at its end
pub book_refused : (file : List ℕ) (r : Refusal) → read_book file ≡ refused r → Fault file r
book_refused file r e = subst (ByAnswer (ReadsBook file) (Fault file)) e (book_holds file)

-- ---- the parts, for code that reads them one by one

pub record NodeIs (file : List ℕ) (v at : ℕ) (n : Node) (next : ℕ) : Type 0 where
  pub within : Within v n
  pub stands : Stands file at (write_node n) next

pub node_read_lem : (file : List ℕ) (v at : ℕ) (n : Node) (next : ℕ) → Bytes file → at ≤ length file → read_node file v at ≡ got n next
    → NodeIs file v at n next
node_read_lem file v at n next all h e =
    let k : ReadsNode file v at n next = subst (ByAnswer (ReadsNode file v at) (Fault file)) e (node_holds file v at h) in
    record { within = k.within; stands = k.read.stands all }

pub record NodesAre (file : List ℕ) (v k terms at : ℕ) (ns : List Node) (next : ℕ) : Type 0 where
  pub many : length ns ≡ k
  pub leaves : Leaves v terms ns
  pub stands : Stands file at (write_nodes ns) next

pub nodes_read_lem : (file : List ℕ) (v k terms at : ℕ) (ns : List Node) (next : ℕ) → Bytes file → at ≤ length file
    → more_nodes file v k terms at ≡ got ns next → NodesAre file v k terms at ns next
nodes_read_lem file v k terms at ns next all h e =
    let r : ReadsNodes file v k terms at ns next =
    subst (ByAnswer (ReadsNodes file v k terms at) (Fault file)) e (nodes_holds file v k terms at h) in
    record { many = r.many; leaves = r.leaves; stands = r.read.stands all }

pub record RulesAre (file : List ℕ) (v k used at : ℕ) (rs : List Rule) (next : ℕ) : Type 0 where
  pub many : length rs ≡ k
  pub valid : AllValid v rs
  pub small : used + total rs ≤ nodes
  pub stands : Stands file at (write_rules rs) next

pub rules_read : (file : List ℕ) (v k used at : ℕ) (rs : List Rule) (next : ℕ) → Bytes file → used ≤ nodes → at ≤ length file
    → more_rules file v k used at ≡ got rs next → RulesAre file v k used at rs next
rules_read file v k used at rs next all u h e =
    let r : ReadsRules file v k used at rs next =
    subst (ByAnswer (ReadsRules file v k used at) (Fault file)) e (rules_holds file v k used at u h) in
    record { many = r.many; valid = r.valid; small = r.small; stands = r.read.stands all }
