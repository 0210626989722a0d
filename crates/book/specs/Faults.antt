-- When a file is no book, and at which place: what stands before the place is the beginning of a book, and what is due there is missing or wrong.
-- Nothing here reads a file: a beginning is told by the bytes that are written of it, and a number's own faults number's Faults tells.
use Rattle.std.specs.Prelude.{ℕ, ◌+◌, ◌-◌, ◌≤◌, ◌<◌, ◌≡◌, false, List, [], ◌∷◌, ◌++◌, length}
use Rattle.number.specs.declared.Refusal.{Refusal}
use Rattle.number.specs.declared.Refusal.TheVariants.{Range, Stack, Tail}
use Rattle.number.specs.Limits.{first_version, last_version, rules, kinds, nodes, code_range, last_byte, code_either, first_letter, last_letter}
use Rattle.number.specs.Numbers.{write_number, NumberAt}
use Rattle.number.specs.Faults.{NumberFault, FieldFault}
use Rattle.book.specs.declared.Node.{Node}
use Rattle.book.specs.Book.{Rule, Book, allowed, takes, total, write_node, write_nodes, write_rules, write_book}
use Rattle.book.specs.Valid.{Allowed, Within, AllValid, Known, ValidBook}

-- nodes of a book of version v, each of which finds its terms, make u terms of t
abbrev pub Makes : ℕ → ℕ → List Node → ℕ → Type 0
Makes v t [] u = t ≡ u
Makes v t (n ∷ ns) u = Within v n × (takes n ≤ t) × Makes v (t - takes n + 1) ns u

-- what stands before a rule: the version, the count of n rules, and the rules that are done
abbrev pub to_rule : ℕ → ℕ → List Rule → List ℕ
to_rule v n done = write_number v ++ (write_number n ++ write_rules done)

pub record Begun (v n : ℕ) (done : List Rule) : Type 0 where
  pub known : Known v
  pub some : 1 ≤ n
  pub few : n ≤ rules
  pub valid : AllValid v done
  pub small : total done ≤ nodes
  pub less : length done < n

-- what stands before a node: that, the rule's kind, its count of m nodes, and the nodes that are done
abbrev pub to_node : ℕ → ℕ → List Rule → ℕ → ℕ → List Node → List ℕ
to_node v n done kind m ns = to_rule v n done ++ (write_number kind ++ (write_number m ++ write_nodes ns))

pub record Inside (v n : ℕ) (done : List Rule) (kind m : ℕ) (ns : List Node) (terms : ℕ) : Type 0 where
  pub begun : Begun v n done
  pub kind_fits : kind ≤ kinds
  pub some : 1 ≤ m
  pub small : total done + m ≤ nodes
  pub makes : Makes v 0 ns terms

-- behind these bytes of a node of version v a number is due, from the first limit to the second: the bounds of a range, of which the high is
-- not below the low, a letter
pub data DueInNode (v : ℕ) : List ℕ → ℕ → ℕ → Type 0 where
  low : Allowed v code_range → DueInNode v (write_number code_range) 0 last_byte
  high : Allowed v code_range → (lo : ℕ) → lo ≤ last_byte → DueInNode v (write_number code_range ++ write_number lo) lo last_byte
  letter : Allowed v code_either → DueInNode v (write_number code_either) first_letter last_letter

-- and behind these of a book: the version, the rule count, a kind, a node count, a number of a node
pub data Due : List ℕ → ℕ → ℕ → Type 0 where
  due_version : Due [] first_version last_version
  due_rules : (v : ℕ) → Known v → Due (write_number v) 1 rules
  due_kind : (v n : ℕ) (done : List Rule) → Begun v n done → Due (to_rule v n done) 0 kinds
  due_nodes : (v n : ℕ) (done : List Rule) (kind : ℕ) → Begun v n done → kind ≤ kinds → Due (to_rule v n done ++ write_number kind) 1 nodes
  due_node : (v n : ℕ) (done : List Rule) (kind m : ℕ) (ns : List Node) (terms : ℕ) (w : List ℕ) (lo hi : ℕ)
      → Inside v n done kind m ns terms → length ns < m → DueInNode v w lo hi → Due (to_node v n done kind m ns ++ w) lo hi

-- a node's code has its number's fault; or a number stands there that is no code of version v
pub data CodeFault (s : List ℕ) (v at : ℕ) : Refusal → Type 0 where
  no_number : (r : Refusal) (k : ℕ) → NumberFault s at r k → CodeFault s v at r
  no_code : (c next : ℕ) → NumberAt s at c next → allowed v c ≡ false → CodeFault s v at (Range at)

-- the faults of a file, each with its refusal; `rest` is what follows, whatever it is
pub data Faulty (file : List ℕ) : Refusal → Type 0 where
  -- a number that is due is not there: its own refusal at its first byte
  number : {r : Refusal} (w rest : List ℕ) (lo hi : ℕ) → Due w lo hi → file ≡ w ++ rest → FieldFault file lo hi (length w) r → Faulty file r
  -- nor is a code
  code : {r : Refusal} (v n : ℕ) (done : List Rule) (kind m : ℕ) (ns : List Node) (terms : ℕ) (rest : List ℕ)
      → Inside v n done kind m ns terms → length ns < m → file ≡ to_node v n done kind m ns ++ rest
      → CodeFault file v (length (to_node v n done kind m ns)) r → Faulty file r
  -- all rules together pass 512 nodes: at the rule's node count
  too_many : (v n : ℕ) (done : List Rule) (kind m : ℕ) (rest : List ℕ) → Begun v n done → kind ≤ kinds → 1 ≤ m → m ≤ nodes
      → nodes < total done + m → file ≡ to_rule v n done ++ (write_number kind ++ (write_number m ++ rest))
      → Faulty file (Range (length (to_rule v n done) + length (write_number kind)))
  -- a node finds too few terms: at its code
  lacks_terms : (v n : ℕ) (done : List Rule) (kind m : ℕ) (ns : List Node) (terms : ℕ) (o : Node) (rest : List ℕ)
      → Inside v n done kind m ns terms → length ns < m → file ≡ to_node v n done kind m ns ++ (write_node o ++ rest)
      → Within v o → terms < takes o → Faulty file (Stack (length (to_node v n done kind m ns)))
  -- a rule's nodes leave other than one term: at the byte after the rule
  terms_left : (v n : ℕ) (done : List Rule) (kind m : ℕ) (ns : List Node) (terms : ℕ) (rest : List ℕ)
      → Inside v n done kind m ns terms → length ns ≡ m → file ≡ to_node v n done kind m ns ++ rest
      → (terms ≡ 1 → ⊥) → Faulty file (Stack (length (to_node v n done kind m ns)))
  -- bytes behind a whole book: at the first of them
  spare : (b : Book) (c : ℕ) (rest : List ℕ) → ValidBook b → file ≡ write_book b ++ (c ∷ rest) → Faulty file (Tail (length (write_book b)))
