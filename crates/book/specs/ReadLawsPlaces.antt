-- A book that was read, place by place: where each rule stands, that its kind and count are read there, and how its nodes follow.
-- The places are defined in Places; code that walks a book's file cites these laws and reads nothing twice.
use Rattle.std.specs.Prelude.{ℕ, zero, suc, ◌+◌, ◌≤◌, ◌<◌, ◌≡◌, refl, List, [], ◌∷◌, ◌++◌, length, get_or, take, drop}
use Rattle.std.proofs.Common.{arith, add-one, zero-add, add-zero, sym, ap, ◌∙◌, append_assoc, append-nil, length-append, take-suc, drop_at}
use Rattle.std.proofs.Math.Seq.{split_at}
use Rattle.number.specs.Limits.{first_version, last_version, rules, kinds, nodes}
use Rattle.number.specs.Refused.Answer.{got}
use Rattle.number.specs.Numbers.{Bytes, field, write_number}
use Rattle.number.proofs.NumberLaws.{field_written}
use Rattle.number.specs.Lists.{drop_past}
use Rattle.book.specs.declared.Node.{Node}
use Rattle.book.specs.Book.{Rule, Book, total, write_node, write_nodes, write_rule, write_rules, write_book}
use Rattle.book.specs.Reads.{read_node, read_book}
use Rattle.book.specs.Valid.{Within, ValidRule, AllValid, ValidBook}
use Rattle.book.specs.Places.{no_rule, rule_of, rule_at, nodes_at}
use Rattle.book.specs.ReadLawsSteps.{first, second}
use Rattle.book.specs.ReadLawsWritten.{node_written}
use Rattle.book.specs.ReadLaws.{book_read}

-- ---- one rule of many

pub rule_valid : (v : ℕ) (rs : List Rule) (i : ℕ) (d : Rule) → AllValid v rs → i < length rs → ValidRule v (get_or rs i d)
rule_valid v [] i d h l = absurd (omega arith)
rule_valid v (r ∷ rs) zero d h l = h.0
rule_valid v (r ∷ rs) (suc i) d h l = rule_valid v rs i d h.1 (omega arith)

pub rule_small : (rs : List Rule) (i : ℕ) (d : Rule) → i < length rs → length (get_or rs i d).nodes ≤ total rs
unfolding total
rule_small [] i d l = absurd (omega arith)
rule_small (r ∷ rs) zero d l = omega arith
rule_small (r ∷ rs) (suc i) d l = omega (arith, rule_small rs i d (omega arith))

pub rules_append : (rs ss : List Rule) → write_rules (rs ++ ss) ≡ write_rules rs ++ write_rules ss
unfolding write_rules
rules_append [] ss = refl
rules_append (r ∷ rs) ss = ap (λ (t : List ℕ). write_rule r ++ t) (rules_append rs ss) ∙ sym (append_assoc (write_rule r) (write_rules rs) (write_rules ss))

-- the rules before, the rule, the rules after
rules_split : (rs : List Rule) (i : ℕ) (d : Rule) → i < length rs
    → write_rules rs ≡ write_rules (take i rs) ++ (write_rule (get_or rs i d) ++ write_rules (drop (i + 1) rs))
unfolding write_rules
rules_split rs i d l =
    ap write_rules (split_at rs i d l) ∙ rules_append (take i rs) (get_or rs i d ∷ drop (suc i) rs)
    ∙ ap (λ (k : ℕ). write_rules (take i rs) ++ (write_rule (get_or rs i d) ++ write_rules (drop k rs))) (sym (add-one i))

-- the rules before the next one
rules_next : (rs : List Rule) (i : ℕ) (d : Rule) → i < length rs
    → length (write_rules (take (i + 1) rs)) ≡ length (write_rules (take i rs)) + length (write_rule (get_or rs i d))
unfolding write_rules
rules_next rs i d l =
    let r : Rule = get_or rs i d in
    let same : write_rules (take (i + 1) rs) ≡ write_rules (take i rs) ++ (write_rule r ++ []) =
    ap (λ (k : ℕ). write_rules (take k rs)) (add-one i) ∙ ap write_rules (take-suc rs i d l) ∙ rules_append (take i rs) (r ∷ []) in
    rw (same, append-nil) (length-append (write_rules (take i rs)) (write_rule r))

-- ---- a rule of a book

-- rule i of a book stands in its file: where, what is read there, and what follows
pub record RuleIn (file : List ℕ) (b : Book) (i : ℕ) : Type 0 where
  pub valid : ValidRule b.version (rule_of b i)
  pub small : length (rule_of b i).nodes ≤ nodes
  pub stands : drop (rule_at b i) file ≡ write_rule (rule_of b i) ++ write_rules (drop (i + 1) b.rules)
  pub kind_read : field file 0 kinds (rule_at b i) ≡ got (rule_of b i).kind (rule_at b i + length (write_number (rule_of b i).kind))
  pub count_read : field file 1 nodes (rule_at b i + length (write_number (rule_of b i).kind)) ≡ got (length (rule_of b i).nodes) (nodes_at b i)
  pub nodes_stand : drop (nodes_at b i) file ≡ write_nodes (rule_of b i).nodes ++ write_rules (drop (i + 1) b.rules)
  pub next : nodes_at b i + length (write_nodes (rule_of b i).nodes) ≡ rule_at b (i + 1)
  pub inside : rule_at b (i + 1) ≤ length file

-- what is written before rule i; the book, cut there
abbrev front : Book → ℕ → List ℕ
front b i = write_number b.version ++ (write_number (length b.rules) ++ write_rules (take i b.rules))

book_split : (b : Book) (i : ℕ) → i < length b.rules
    → write_book b ≡ front b i ++ (write_rule (rule_of b i) ++ write_rules (drop (i + 1) b.rules))
unfolding write_book
book_split b i l = simp (rules_split b.rules i no_rule l, append_assoc)

front_length : (b : Book) (i : ℕ) → length (front b i) ≡ rule_at b i
unfolding rule_at
front_length b i = simp (length-append) (omega arith)

rule_next : (b : Book) (i : ℕ) → i < length b.rules → nodes_at b i + length (write_nodes (rule_of b i).nodes) ≡ rule_at b (i + 1)
unfolding rule_at nodes_at write_rule
rule_next b i l =
    let r : Rule = rule_of b i in
    let body : List ℕ = write_number (length r.nodes) ++ write_nodes r.nodes in
    omega (
      arith,
      rules_next b.rules i no_rule l,
      length-append (write_number r.kind) body,
      length-append (write_number (length r.nodes)) (write_nodes r.nodes),
    )

rule_inside : (b : Book) (i : ℕ) → i < length b.rules → rule_at b (i + 1) ≤ length (write_book b)
unfolding rule_at
rule_inside b i l =
    let r : List ℕ = write_rule (rule_of b i) in
    let rest : List ℕ = write_rules (drop (i + 1) b.rules) in
    omega (
      arith,
      ap length (book_split b i l),
      length-append (front b i) (r ++ rest),
      length-append r rest,
      front_length b i,
      rules_next b.rules i no_rule l,
    )

pub rule_stands : (file : List ℕ) (b : Book) (i : ℕ) → ValidBook b → write_book b ≡ file → i < length b.rules → RuleIn file b i
unfolding nodes_at write_rule
rule_stands file b i valid e l =
    let r : Rule = rule_of b i in
    let kind : List ℕ = write_number r.kind in
    let count : List ℕ = write_number (length r.nodes) in
    let body : List ℕ = write_nodes r.nodes in
    let rest : List ℕ = write_rules (drop (i + 1) b.rules) in
    let at : ℕ = rule_at b i in
    let ok : ValidRule b.version r = rule_valid b.version b.rules i no_rule valid.valid l in
    let few : length r.nodes ≤ nodes = omega (arith, rule_small b.rules i no_rule l, valid.small) in
    let e0 : drop at file ≡ (kind ++ (count ++ body)) ++ rest =
    rw (← e, book_split b i l) (drop_at (front b i) _ at (front_length b i)) in
    let e1 = second file at kind (count ++ body) rest e0 in
    let e2 = second file (at + length kind) count body rest e1 in
    record {
      valid = ok;
      small = few;
      stands = e0;
      kind_read =
          field_written r.kind file 0 kinds at _ (omega (arith, ok.kind_fits)) (omega arith) ok.kind_fits (first file at kind _ _ e0);
      count_read =
          field_written (length r.nodes) file 1 nodes (at + length kind) _ (omega arith) ok.some few
          (first file (at + length kind) count _ _ e1);
      nodes_stand = e2;
      next = rule_next b i l;
      inside = rw (← e) (rule_inside b i l);
    }

pub rule_in_lem : (file : List ℕ) (b : Book) (after i : ℕ) → Bytes file → read_book file ≡ got b after → i < length b.rules → RuleIn file b i
rule_in_lem file b after i all e l =
    let h = book_read file b after all e in
    rule_stands file b i h.valid h.writes l

-- the first rule stands after the version and the count, which are read so
pub rules_start : (file : List ℕ) (b : Book) (after : ℕ) → Bytes file → read_book file ≡ got b after
    → (field file first_version last_version 0 ≡ got b.version (length (write_number b.version)))
    × (field file 1 rules (length (write_number b.version)) ≡ got (length b.rules) (rule_at b 0))
unfolding rule_at write_book write_rules
rules_start file b after all e =
    let h = book_read file b after all e in
    let v : List ℕ = write_number b.version in
    let n : List ℕ = write_number (length b.rules) in
    let rs : List ℕ = write_rules b.rules in
    let e0 : drop 0 file ≡ v ++ (n ++ rs) = sym h.writes in
    let e1 : drop (length v) file ≡ n ++ rs = rw zero-add at (drop_past file 0 v (n ++ rs) e0) in
    let known = h.valid.known in (
      field_written b.version file first_version last_version 0 (n ++ rs) (omega arith) known.0 known.1 e0
          ∙ ap (got b.version) (zero-add (length v)),
      field_written (length b.rules) file 1 rules (length v) rs (omega (arith, h.valid.few)) h.valid.some h.valid.few e1
          ∙ ap (got (length b.rules)) (sym (add-zero (length v + length n))),
    )

-- ---- a node, and the nodes after it

pub node_step : (file : List ℕ) (v : ℕ) (n : Node) (ns : List Node) (at : ℕ) (t : List ℕ) → Within v n
    → drop at file ≡ write_nodes (n ∷ ns) ++ t
    → (read_node file v at ≡ got n (at + length (write_node n))) × (drop (at + length (write_node n)) file ≡ write_nodes ns ++ t)
unfolding write_nodes
node_step file v n ns at t w e =
    (node_written file v n at _ w (first file at (write_node n) (write_nodes ns) t e), second file at (write_node n) (write_nodes ns) t e)
