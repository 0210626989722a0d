-- What was written is read: where a part of a valid book stands as it is written, its reader gets that part and the place after it.
-- From a node up to the rules, each for any file and any place.
use Rattle.std.specs.Prelude.{ℕ, ◌+◌, ◌-◌, ◌≤◌, ◌<◌, ◌≡◌, List, [], ◌∷◌, ◌++◌, length, drop}
use Rattle.std.proofs.Common.{arith, ap, ◌∙◌, le-ltb, eq-eqb}
use Rattle.number.specs.Limits.{group, kinds, nodes, last_byte, first_letter, last_letter}
use Rattle.number.specs.Refused.Answer.{got}
use Rattle.number.specs.Numbers.{write_number}
use Rattle.number.proofs.NumberLaws.{read_written, field_written}
use Rattle.book.specs.declared.Node.{Node}
use Rattle.book.specs.declared.Node.TheVariants.{Nothing, Empty, Range, Cat, Alt, Star, Either, And, Not}
use Rattle.book.specs.Book.{Rule, code_of, takes, total, write_fields, write_node, write_nodes, write_rule, write_rules}
use Rattle.book.specs.Reads.{read_range, read_either, read_after, read_node, more_nodes, more_rules}
use Rattle.book.specs.Valid.{Within, Leaves, AllValid}
use Rattle.book.specs.ReadLawsSteps.{first, second, past_both}

-- a node's numbers, behind its code
fields_written : (file : List ℕ) (v : ℕ) (n : Node) (start at : ℕ) (t : List ℕ) → Within v n → drop at file ≡ write_fields n ++ t
    → read_after file v start (code_of n) at ≡ got n (at + length (write_fields n))
unfolding read_after read_range read_either
fields_written file v Nothing start at t w e = rw w.0 (ap (got Nothing) (omega arith))
fields_written file v Empty start at t w e = rw w.0 (ap (got Empty) (omega arith))
fields_written file v (Range lo hi) start at t w e =
    let low : List ℕ = write_number lo in
    let high : List ℕ = write_number hi in
    rw (
      w.0,
      field_written lo file 0 last_byte at _ (omega arith) (omega arith) (omega arith) (first file at low high t e),
      field_written hi file lo last_byte (at + length low) t (omega arith) w.1.0 w.1.1 (second file at low high t e),
    )
    (ap (got (Range lo hi)) (past_both at low high))
fields_written file v Cat start at t w e = rw w.0 (ap (got Cat) (omega arith))
fields_written file v Alt start at t w e = rw w.0 (ap (got Alt) (omega arith))
fields_written file v Star start at t w e = rw w.0 (ap (got Star) (omega arith))
fields_written file v (Either x) start at t w e = rw (w.0, field_written x file first_letter last_letter at t (omega arith) w.1.0 w.1.1 e)
fields_written file v And start at t w e = rw w.0 (ap (got And) (omega arith))
fields_written file v Not start at t w e = rw w.0 (ap (got Not) (omega arith))

-- a code is one byte
pub code_small : (n : Node) → code_of n < group
code_small Nothing = omega arith
code_small Empty = omega arith
code_small (Range lo hi) = omega arith
code_small Cat = omega arith
code_small Alt = omega arith
code_small Star = omega arith
code_small (Either x) = omega arith
code_small And = omega arith
code_small Not = omega arith

pub node_written : (file : List ℕ) (v : ℕ) (n : Node) (at : ℕ) (t : List ℕ) → Within v n → drop at file ≡ write_node n ++ t
    → read_node file v at ≡ got n (at + length (write_node n))
unfolding read_node write_node
node_written file v n at t w e =
    let code : List ℕ = write_number (code_of n) in
    let rest : List ℕ = write_fields n in
    rw (
      read_written (code_of n) file at _ (omega (arith, code_small n)) (first file at code rest t e),
      fields_written file v n at (at + length code) t w (second file at code rest t e),
    )
    (ap (got n) (past_both at code rest))

pub nodes_written : (file : List ℕ) (v : ℕ) (ns : List Node) (terms at : ℕ) (t : List ℕ) → Leaves v terms ns
    → drop at file ≡ write_nodes ns ++ t → more_nodes file v (length ns) terms at ≡ got ns (at + length (write_nodes ns))
unfolding more_nodes write_nodes
nodes_written file v [] terms at t h e = rw (eq-eqb terms 1 h) (ap (got []) (omega arith))
nodes_written file v (n ∷ ns) terms at t h e =
    let v1 : List ℕ = write_node n in
    let v2 : List ℕ = write_nodes ns in
    rw (
      node_written file v n at _ h.0 (first file at v1 v2 t e),
      le-ltb terms (takes n) h.1,
      nodes_written file v ns (terms - takes n + 1) (at + length v1) t h.2 (second file at v1 v2 t e),
    )
    (ap (got (n ∷ ns)) (past_both at v1 v2))

pub rules_written : (file : List ℕ) (v : ℕ) (rs : List Rule) (used at : ℕ) (t : List ℕ) → AllValid v rs → used + total rs ≤ nodes
    → drop at file ≡ write_rules rs ++ t → more_rules file v (length rs) used at ≡ got rs (at + length (write_rules rs))
unfolding more_rules write_rules write_rule total
rules_written file v [] used at t h small e = ap (got []) (omega arith)
rules_written file v (r ∷ rs) used at t h small e =
    let m : ℕ = length r.nodes in
    let kind : List ℕ = write_number r.kind in
    let count : List ℕ = write_number m in
    let body : List ℕ = write_nodes r.nodes in
    let others : List ℕ = write_rules rs in
    let e0 = first file at (kind ++ (count ++ body)) others t e in
    let e1 = second file at kind (count ++ body) (others ++ t) e0 in
    let e2 = second file (at + length kind) count body (others ++ t) e1 in
    let e3 = second file at (kind ++ (count ++ body)) others t e in
    let there : at + length kind + length count + length body ≡ at + length (kind ++ (count ++ body)) =
    past_both (at + length kind) count body ∙ past_both at kind (count ++ body) in
    rw (
      field_written r.kind file 0 kinds at _ (omega arith) (omega arith) h.0.kind_fits (first file at kind _ _ e0),
      field_written m file 1 nodes (at + length kind) _ (omega arith) h.0.some (omega arith) (first file (at + length kind) count _ _ e1),
      le-ltb nodes (used + m) (omega arith),
      nodes_written file v r.nodes 0 (at + length kind + length count) _ h.0.leaves e2,
      there,
      rules_written file v rs (used + m) _ t h.1 (omega arith) e3,
    )
    (ap (got (r ∷ rs)) (past_both at (kind ++ (count ++ body)) others))
