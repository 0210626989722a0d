-- What is read was written: a part that a reader gets is valid, and it stands in the file as it would be written.
-- The same walk shows where and how a refusal can come, since each claim is about the whole answer.
use Prim.Native.Nat.{ℕ, zero, suc, ◌+◌, ◌-◌, ◌≤◌}
use native.Mathlib.Omega.{arith}
use Rattle.std.specs.Prelude.{◌≡◌, refl, true, not, List, [], ◌++◌, ltb, eqb}
use Rattle.std.proofs.Math.Path.{ap}
use Rattle.std.proofs.Math.Logic.{inl}
use borrow.Author.Tests.{ltb-false, eqb-true}
use Rattle.std.proofs.Math.ListN.{length}
use Rattle.number.specs.declared.Refusal.TheVariants.{Range as OutOfRange, Stack, Tail}
use Rattle.number.specs.Limits.{first_version, last_version, rules, kinds, nodes, last_byte, first_letter, last_letter}
use Rattle.number.specs.Limits.{code_nothing, code_empty, code_range, code_cat, code_alt, code_star, code_either, code_and, code_not}
use Rattle.number.specs.Numbers.{write_number}
use Rattle.number.specs.Reading.{Reader, answer}
use Rattle.number.specs.Branch.{by_cond}
use Rattle.book.specs.declared.Node.{Node}
use Rattle.book.specs.declared.Node.TheVariants.{Nothing, Empty, Range, Cat, Alt, Star, Either, And, Not}
use Rattle.book.specs.Book.{Rule, Book, code_of, allowed, takes, total, write_fields, write_node, write_nodes, write_rule, write_rules, write_book}
use Rattle.book.specs.Reads.{read_range, read_either, read_after, read_node, more_nodes, more_rules, book, read_book}
use Rattle.book.specs.Valid.{Allowed, InFields, Within, Leaves, AllValid, ValidBook}
use Rattle.book.specs.ReadLawsSteps.{not-false, ByAnswer, on, past_test, Read, read_none, read_more, Fault, on_field, on_number}

pub record ReadsNode (file : List ℕ) (v at : ℕ) (n : Node) (next : ℕ) : Type 0 where
  pub within : Within v n
  pub read : Read file at (write_node n) next

pub record ReadsNodes (file : List ℕ) (v k terms at : ℕ) (ns : List Node) (next : ℕ) : Type 0 where
  pub many : length ns ≡ k
  pub leaves : Leaves v terms ns
  pub read : Read file at (write_nodes ns) next

pub record ReadsRules (file : List ℕ) (v k used at : ℕ) (rs : List Rule) (next : ℕ) : Type 0 where
  pub many : length rs ≡ k
  pub valid : AllValid v rs
  pub small : used + total rs ≤ nodes
  pub read : Read file at (write_rules rs) next

pub record ReadsBook (file : List ℕ) (b : Book) (next : ℕ) : Type 0 where
  pub valid : ValidBook b
  pub whole : next ≡ length file
  pub read : Read file 0 (write_book b) next

module _ (file : List ℕ) where
  -- from a node's code on, which stands before
  module _ (v code start at : ℕ) (near : start ≤ length file) (s : Read file start (write_number code) at) where
    abbrev Holds : Reader Node → Type 0
    Holds m = ByAnswer (ReadsNode file v start) (Fault file) (m at)

    refused_here : Fault file (OutOfRange start)
    refused_here = record { row = inl (omega arith, omega arith); near = near }

    -- where it is that node's code, and the node's numbers stand behind it
    node_is : (n : Node) (next : ℕ) → Allowed v code → eqb code (code_of n) ≡ true → InFields n → Read file at (write_fields n) next → ReadsNode file v start n next
    unfolding write_node
    node_is n next known t fits fields =
        let same : code ≡ code_of n = eqb-true code (code_of n) t in
        record { within = (rw same at known, fits); read = read_more file (write_number (code_of n)) (write_fields n) (rw same at s) fields }

    -- a node that is its code alone
    no_fields : Read file at [] at
    no_fields = read_none file at s.inside

    after_holds : Holds (read_after file v start code)
    unfolding read_after read_range read_either
    after_holds =
        by_cond Holds (not (allowed v code)) (λ e. refused_here) λ e.
        let known : Allowed v code = not-false (allowed v code) e in
        by_cond Holds (eqb code code_nothing) (λ t. node_is Nothing at known t tt no_fields) λ _.
        by_cond Holds (eqb code code_empty) (λ t. node_is Empty at known t tt no_fields) λ _.
        by_cond Holds (eqb code code_range)
        (λ t.
        on_field (ReadsNode file v start) file 0 last_byte at _ s.inside λ lo mid l.
        on_field (ReadsNode file v start) file lo last_byte mid _ l.read.inside λ hi next u.
        node_is (Range lo hi) next known t (u.low, u.high) (read_more file (write_number lo) (write_number hi) l.read u.read))
        λ _.
        by_cond Holds (eqb code code_cat) (λ t. node_is Cat at known t tt no_fields) λ _.
        by_cond Holds (eqb code code_alt) (λ t. node_is Alt at known t tt no_fields) λ _.
        by_cond Holds (eqb code code_star) (λ t. node_is Star at known t tt no_fields) λ _.
        by_cond Holds (eqb code code_either)
        (λ t. on_field (ReadsNode file v start) file first_letter last_letter at _ s.inside λ x next f. node_is (Either x) next known t (f.low, f.high) f.read)
        λ _.
        by_cond Holds (eqb code code_and) (λ t. node_is And at known t tt no_fields) λ _.
        by_cond Holds (eqb code code_not) (λ t. node_is Not at known t tt no_fields) λ _. refused_here

  pub node_holds : (v at : ℕ) → at ≤ length file → ByAnswer (ReadsNode file v at) (Fault file) (read_node file v at)
  unfolding read_node
  node_holds v at h =
      on_number (ReadsNode file v at) file at _ h λ code next f. after_holds v code at next h f

  pub nodes_holds : (v k terms at : ℕ) → at ≤ length file → ByAnswer (ReadsNodes file v k terms at) (Fault file) (more_nodes file v k terms at)
  unfolding more_nodes write_nodes
  nodes_holds v zero terms at h =
      past_test (ReadsNodes file v 0 terms at) (Fault file) (not (eqb terms 1)) (Stack at) at (answer [])
      (record { row = inl (omega arith, omega arith); near = h })
      λ e. record { many = refl; leaves = eqb-true terms 1 (not-false (eqb terms 1) e); read = read_none file at h }
  nodes_holds v (suc k) terms at h =
      on (ReadsNode file v at) (ReadsNodes file v (suc k) terms at) (Fault file) (read_node file v at) _ (node_holds v at h) λ n mid f.
      past_test (ReadsNodes file v (suc k) terms at) (Fault file) (ltb terms (takes n)) (Stack at) mid _
      (record { row = inl (omega arith, omega arith); near = h })
      λ e.
      on (ReadsNodes file v k (terms - takes n + 1) mid) (ReadsNodes file v (suc k) terms at) (Fault file) (more_nodes file v k (terms - takes n + 1) mid) _
      (nodes_holds v k (terms - takes n + 1) mid f.read.inside) λ ns next g.
      record {
        many = ap suc g.many;
        leaves = (f.within, ltb-false terms (takes n) e, g.leaves);
        read = read_more file (write_node n) (write_nodes ns) f.read g.read;
      }

  pub rules_holds : (v k used at : ℕ) → used ≤ nodes → at ≤ length file
      → ByAnswer (ReadsRules file v k used at) (Fault file) (more_rules file v k used at)
  unfolding more_rules write_rules write_rule total
  rules_holds v zero used at u h = record { many = refl; valid = tt; small = omega arith; read = read_none file at h }
  rules_holds v (suc k) used at u h =
      on_field (ReadsRules file v (suc k) used at) file 0 kinds at _ h λ kind there f.
      on_field (ReadsRules file v (suc k) used at) file 1 nodes there _ f.read.inside λ m mid c.
      past_test (ReadsRules file v (suc k) used at) (Fault file) (ltb nodes (used + m)) (OutOfRange there) mid _
      (record { row = inl (omega arith, omega arith); near = f.read.inside })
      λ e.
      on (ReadsNodes file v m 0 mid) (ReadsRules file v (suc k) used at) (Fault file) (more_nodes file v m 0 mid) _
      (nodes_holds v m 0 mid c.read.inside) λ ns end g.
      on (ReadsRules file v k (used + m) end) (ReadsRules file v (suc k) used at) (Fault file) (more_rules file v k (used + m) end) _
      (rules_holds v k (used + m) end (ltb-false nodes (used + m) e) g.read.inside) λ rs next o.
      let many : length ns ≡ m = g.many in
      record {
        many = ap suc o.many;
        valid = (record { kind_fits = f.high; some = omega (arith, c.low); leaves = g.leaves }, o.valid);
        small = omega (arith, o.small);
        read =
            read_more file (write_number kind ++ (write_number (length ns) ++ write_nodes ns)) (write_rules rs)
            (read_more file (write_number kind) (write_number (length ns) ++ write_nodes ns) f.read
            (read_more file (write_number (length ns)) (write_nodes ns) (rw (← many) at c.read) g.read))
            o.read;
      }

  pub book_holds : ByAnswer (ReadsBook file) (Fault file) (read_book file)
  unfolding book write_book
  book_holds =
      on_field (ReadsBook file) file first_version last_version 0 _ (omega arith) λ v there f.
      on_field (ReadsBook file) file 1 rules there _ f.read.inside λ n mid c.
      on (ReadsRules file v n 0 mid) (ReadsBook file) (Fault file) (more_rules file v n 0 mid) _
      (rules_holds v n 0 mid (omega arith) c.read.inside) λ rs next g.
      past_test (ReadsBook file) (Fault file) (ltb next (length file)) (Tail next) next _
      (record { row = inl (omega arith, omega arith); near = g.read.inside })
      λ e.
      let many : length rs ≡ n = g.many in
      record {
        valid =
            record {
              known = (f.low, f.high);
              some = omega (arith, c.low);
              few = omega (arith, c.high);
              valid = g.valid;
              small = omega (arith, g.small);
            };
        whole = omega (arith, ltb-false next (length file) e, g.read.inside);
        read =
            read_more file (write_number v) (write_number (length rs) ++ write_rules rs) f.read
            (read_more file (write_number (length rs)) (write_rules rs) (rw (← many) at c.read) g.read);
      }
