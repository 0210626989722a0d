-- What is faulty is refused so: past all that stands right before the fault the reader comes to it, and ends there.
-- With FaultLawsRead both ways: a file is refused by a refusal exactly where it is faulty so.
use Prim.Native.Nat.{ℕ, zero, suc, ◌+◌, ◌-◌, ◌≤◌, ◌<◌}
use native.Mathlib.Omega.{arith}
use Rattle.std.proofs.Math.Nat.{zero-add}
use Rattle.std.specs.Prelude.{◌≡◌, ◌↔◌}
use Rattle.std.proofs.Math.Path.{refl, ap, subst}
use Rattle.std.proofs.Common.{sym, ◌∙◌}
use mathlib.Core.List.{List, [], ◌∷◌, ◌++◌, append_assoc}
use borrow.Author.Tests.{lt-ltb, le-ltb, ne_eqb}
use Rattle.std.proofs.Math.ListN.{length, drop, length-append}
use Rattle.std.proofs.Math.Seq.{drop-append_seam}
use Rattle.number.specs.declared.Refusal.{Refusal}
use Rattle.number.specs.Limits.{first_version, last_version, two_groups, rules, kinds, nodes, code_range, last_byte, code_either}
use Rattle.number.specs.Refused.Answer.{got, refused}
use Rattle.number.specs.Numbers.{Bytes, field, write_number}
use Rattle.number.specs.Lists.{drop_past}
use Rattle.number.proofs.NumberLaws.{read_written, field_written}
use Rattle.number.proofs.FaultLaws.{number_read, fault_refused, field_fault}
use Rattle.book.specs.declared.Node.{Node}
use Rattle.book.specs.Book.{Rule, takes, total, write_node, write_nodes, write_rule, write_rules, write_book}
use Rattle.book.specs.Reads.{read_range, read_either, read_after, read_node, more_nodes, more_rules, book, read_book}
use Rattle.book.specs.Valid.{AllValid, Known}
use Rattle.book.specs.ReadLawsSteps.{first, second, past_both}
use Rattle.book.specs.ReadLawsWritten.{node_written, nodes_written, rules_written}
use Rattle.book.specs.Faults.{Makes, to_rule, Begun, to_node, Inside, DueInNode, Due, CodeFault, Faulty}
use Rattle.book.specs.Faults.DueInNode.{low, high, letter}
use Rattle.book.specs.Faults.Due.{due_version, due_rules, due_kind, due_nodes, due_node}
use Rattle.book.specs.Faults.CodeFault.{no_number, no_code}
use Rattle.book.specs.Faults.Faulty.{number, code, too_many, lacks_terms, terms_left, spare}
use Rattle.book.specs.FaultLawsRead.{refused_faulty}

module _ (file : List ℕ) where
  -- ---- past what stands right

  -- a number that stands
  passed : (n lo hi at : ℕ) (t : List ℕ) → n < two_groups → lo ≤ n → n ≤ hi → drop at file ≡ write_number n ++ t
      → field file lo hi at ≡ got n (at + length (write_number n))
  passed n lo hi at t small l h e = field_written n file lo hi at t (omega arith) l h e

  past_nodes : (v : ℕ) (ns : List Node) (k j terms u at : ℕ) (t : List ℕ) (r : Refusal) → Makes v terms ns u → j ≡ length ns + k
      → drop at file ≡ write_nodes ns ++ t → more_nodes file v k u (at + length (write_nodes ns)) ≡ refused r
      → more_nodes file v j terms at ≡ refused r
  unfolding more_nodes write_nodes
  past_nodes v [] k j terms u at t r h many e g =
      let here : at + 0 ≡ at = omega arith in
      let same : j ≡ k = omega arith in
      let stood : more_nodes file v k u at ≡ refused r = subst (λ (p : ℕ). more_nodes file v k u p ≡ refused r) here g in
      rw (same, h) stood
  past_nodes v (n ∷ ns) k zero terms u at t r h many e g = absurd (omega arith)
  past_nodes v (n ∷ ns) k (suc j) terms u at t r h many e g =
      let w : List ℕ = write_node n in
      let ws : List ℕ = write_nodes ns in
      let onto : more_nodes file v k u (at + length w + length ws) ≡ refused r =
      subst (λ (p : ℕ). more_nodes file v k u p ≡ refused r) (sym (past_both at w ws)) g in
      rw (
        node_written file v n at _ h.0 (first file at w ws t e),
        le-ltb terms (takes n) h.1,
        past_nodes v ns k j (terms - takes n + 1) u (at + length w) t r h.2 (omega arith) (second file at w ws t e) onto,
      )
      refl

  past_rules : (v : ℕ) (rs : List Rule) (k j used at : ℕ) (t : List ℕ) (r : Refusal) → AllValid v rs → used + total rs ≤ nodes
      → j ≡ length rs + k → drop at file ≡ write_rules rs ++ t
      → more_rules file v k (used + total rs) (at + length (write_rules rs)) ≡ refused r → more_rules file v j used at ≡ refused r
  unfolding more_rules write_rules write_rule total
  past_rules v [] k j used at t r h small many e g =
      let here : at + 0 ≡ at = omega arith in
      let none : used + 0 ≡ used = omega arith in
      let same : j ≡ k = omega arith in
      rw same (rw (here, none) at g)
  past_rules v (q ∷ rs) k zero used at t r h small many e g = absurd (omega arith)
  past_rules v (q ∷ rs) k (suc j) used at t r h small many e g =
      let m : ℕ = length q.nodes in
      let kind : List ℕ = write_number q.kind in
      let count : List ℕ = write_number m in
      let body : List ℕ = write_nodes q.nodes in
      let others : List ℕ = write_rules rs in
      let e0 = first file at (kind ++ (count ++ body)) others t e in
      let e1 = second file at kind (count ++ body) (others ++ t) e0 in
      let e2 = second file (at + length kind) count body (others ++ t) e1 in
      let e3 = second file at (kind ++ (count ++ body)) others t e in
      let there : at + length kind + length count + length body ≡ at + length (kind ++ (count ++ body)) =
      past_both (at + length kind) count body ∙ past_both at kind (count ++ body) in
      let sum : used + (m + total rs) ≡ used + m + total rs = omega arith in
      let onto : more_rules file v k (used + m + total rs) (at + length (kind ++ (count ++ body)) + length others) ≡ refused r =
      rw (sum, ← past_both at (kind ++ (count ++ body)) others) at g in
      rw (
        passed q.kind 0 kinds at _ (omega (arith, h.0.kind_fits)) (omega arith) h.0.kind_fits (first file at kind _ _ e0),
        passed m 1 nodes (at + length kind) _ (omega arith) h.0.some (omega arith) (first file (at + length kind) count _ _ e1),
        le-ltb nodes (used + m) (omega arith),
        nodes_written file v q.nodes 0 (at + length kind + length count) _ h.0.leaves e2,
        there,
        past_rules v rs k j (used + m) _ t r h.1 (omega arith) (omega arith) e3 onto,
      )
      refl

  -- what stands behind a part
  behind : (v w : List ℕ) → file ≡ v ++ w → drop (length v) file ≡ w
  behind v w e = ap (drop (length v)) e ∙ drop-append_seam v w

  to_rules : (v n : ℕ) (t : List ℕ) (r : Refusal) → Known v → 1 ≤ n → n ≤ rules → file ≡ write_number v ++ (write_number n ++ t)
      → more_rules file v n 0 (length (write_number v) + length (write_number n)) ≡ refused r → read_book file ≡ refused r
  unfolding book
  to_rules v n t r known some few e g =
      let one : List ℕ = write_number v in
      rw (
        passed v first_version last_version 0 (write_number n ++ t) (omega arith) known.0 known.1 e,
        zero-add (length one),
        passed n 1 rules (length one) t (omega arith) some few (behind one (write_number n ++ t) e),
        g,
      )
      refl

  to_rule_lem : (v n : ℕ) (done : List Rule) (k : ℕ) (t : List ℕ) (r : Refusal) → Begun v n done → n ≡ length done + k → file ≡ to_rule v n done ++ t
      → more_rules file v k (total done) (length (to_rule v n done)) ≡ refused r → read_book file ≡ refused r
  to_rule_lem v n done k t r h many e g =
      let one : List ℕ = write_number v in
      let num : List ℕ = write_number n in
      let rs : List ℕ = write_rules done in
      let e0 : file ≡ one ++ (num ++ (rs ++ t)) = e ∙ append_assoc one (num ++ rs) t ∙ ap (λ (x : List ℕ). one ++ x) (append_assoc num rs t) in
      let e1 : drop (length one + length num) file ≡ rs ++ t = drop_past file (length one) num (rs ++ t) (behind one (num ++ (rs ++ t)) e0) in
      let there : length (to_rule v n done) ≡ length one + length num + length rs =
      omega (arith, length-append one (num ++ rs), length-append num rs) in
      let none : total done ≡ 0 + total done = omega arith in
      let at-rule : more_rules file v k (0 + total done) (length one + length num + length rs) ≡ refused r =
      subst (λ (p : ℕ). more_rules file v k (0 + total done) p ≡ refused r) there
      (subst (λ (u : ℕ). more_rules file v k u (length (to_rule v n done)) ≡ refused r) none g) in
      to_rules v n (rs ++ t) r h.known h.some h.few e0
      (past_rules v done k n 0 (length one + length num) t r h.valid (omega (arith, h.small)) many e1 at-rule)

  to_node_lem : (v n : ℕ) (done : List Rule) (kind m : ℕ) (ns : List Node) (terms j : ℕ) (t : List ℕ) (r : Refusal)
      → Inside v n done kind m ns terms → m ≡ length ns + j → file ≡ to_node v n done kind m ns ++ t
      → more_nodes file v j terms (length (to_node v n done kind m ns)) ≡ refused r → read_book file ≡ refused r
  unfolding more_rules
  to_node_lem v n done kind m ns terms j t r h many e g =
      let front : List ℕ = to_rule v n done in
      let wk : List ℕ = write_number kind in
      let wm : List ℕ = write_number m in
      let body : List ℕ = write_nodes ns in
      let at : ℕ = length front in
      let k : ℕ = n - length done - 1 in
      let rest : List ℕ = wk ++ (wm ++ (body ++ t)) in
      let e0 : file ≡ front ++ rest =
      e ∙ append_assoc front (wk ++ (wm ++ body)) t ∙ ap (λ (x : List ℕ). front ++ x) (append_assoc wk (wm ++ body) t)
      ∙ ap (λ (x : List ℕ). front ++ (wk ++ x)) (append_assoc wm body t) in
      let e1 : drop at file ≡ rest = behind front rest e0 in
      let e2 : drop (at + length wk) file ≡ wm ++ (body ++ t) = drop_past file at wk (wm ++ (body ++ t)) e1 in
      let e3 : drop (at + length wk + length wm) file ≡ body ++ t = drop_past file (at + length wk) wm (body ++ t) e2 in
      let there : length (to_node v n done kind m ns) ≡ at + length wk + length wm + length body =
      omega (arith, length-append front (wk ++ (wm ++ body)), length-append wk (wm ++ body), length-append wm body) in
      let at-node-place : more_nodes file v j terms (at + length wk + length wm + length body) ≡ refused r =
      subst (λ (p : ℕ). more_nodes file v j terms p ≡ refused r) there g in
      let in-rule : more_rules file v (suc k) (total done) at ≡ refused r =
      rw (
        passed kind 0 kinds at _ (omega (arith, h.kind_fits)) (omega arith) h.kind_fits e1,
        passed m 1 nodes (at + length wk) _ (omega (arith, h.small)) h.some (omega (arith, h.small)) e2,
        le-ltb nodes (total done + m) h.small,
        past_nodes v ns j m 0 terms (at + length wk + length wm) t r h.makes many e3 at-node-place,
      )
      refl in
      to_rule_lem v n done (suc k) rest r h.begun (omega (arith, h.begun.less)) e0 in-rule

  -- ---- the faults

  -- a code
  code_refused : {r : Refusal} (v at : ℕ) → CodeFault file v at r → read_node file v at ≡ refused r
  unfolding read_node read_after
  code_refused v at (no_number r k f) = rw (fault_refused file at r k f).0 refl
  code_refused v at (no_code c next there lacking) = rw (number_read file at c next there, lacking) refl

  -- a number that is due in a node
  node_refused : {w : List ℕ} {lo hi : ℕ} (v at : ℕ) (t : List ℕ) (r : Refusal) → DueInNode v w lo hi → drop at file ≡ w ++ t
      → field file lo hi (at + length w) ≡ refused r → read_node file v at ≡ refused r
  unfolding read_node read_after read_range read_either
  node_refused v at t r (low known) d e = rw (read_written code_range file at t (omega arith) d, known, e) refl
  node_refused v at t r (high known lo l) d e =
      let c : List ℕ = write_number code_range in
      let w : List ℕ = write_number lo in
      let d1 = first file at c w t d in
      rw (
        read_written code_range file at (w ++ t) (omega arith) d1,
        known,
        passed lo 0 last_byte (at + length c) t (omega arith) (omega arith) l (drop_past file at c (w ++ t) d1),
        rw (← past_both at c w) at e,
      )
      refl
  node_refused v at t r (letter known) d e = rw (read_written code_either file at t (omega arith) d, known, e) refl

  -- a number that is due
  due_refused : {w : List ℕ} {lo hi : ℕ} (t : List ℕ) (r : Refusal) → Due w lo hi → file ≡ w ++ t → field file lo hi (length w) ≡ refused r
      → read_book file ≡ refused r
  unfolding book more_rules more_nodes
  due_refused t r due_version e f = rw f refl
  due_refused t r (due_rules v known) e f =
      rw (
        passed v first_version last_version 0 t (omega arith) known.0 known.1 e,
        zero-add (length (write_number v)),
        f,
      )
      refl
  due_refused t r (due_kind v n done h) e f = to_rule_lem v n done (suc (n - length done - 1)) t r h (omega (arith, h.less)) e (rw f refl)
  due_refused t r (due_nodes v n done kind h l) e f =
      let front : List ℕ = to_rule v n done in
      let w : List ℕ = write_number kind in
      let e0 : file ≡ front ++ (w ++ t) = e ∙ append_assoc front w t in
      let stop : field file 1 nodes (length front + length w) ≡ refused r = rw (length-append front w) at f in
      to_rule_lem v n done (suc (n - length done - 1)) (w ++ t) r h (omega (arith, h.less)) e0
      (rw (passed kind 0 kinds (length front) t (omega arith) (omega arith) l (behind front (w ++ t) e0), stop) refl)
  due_refused t r (due_node v n done kind m ns terms w lo hi i less d) e f =
      let front : List ℕ = to_node v n done kind m ns in
      let e0 : file ≡ front ++ (w ++ t) = e ∙ append_assoc front w t in
      let stop : field file lo hi (length front + length w) ≡ refused r = rw (length-append front w) at f in
      to_node_lem v n done kind m ns terms (suc (m - length ns - 1)) (w ++ t) r i (omega arith) e0
      (rw (node_refused v (length front) t r d (behind front (w ++ t) e0) stop) refl)

  pub faulty_refused : (r : Refusal) → Faulty file r → read_book file ≡ refused r
  unfolding book more_rules more_nodes write_book
  faulty_refused r (number w rest lo hi due e f) = due_refused rest r due e (field_fault file lo hi (length w) r f)
  faulty_refused r (code v n done kind m ns terms t i less e f) =
      to_node_lem v n done kind m ns terms (suc (m - length ns - 1)) t r i (omega arith) e (rw (code_refused v (length (to_node v n done kind m ns)) f) refl)
  faulty_refused r (too_many v n done kind m t h l some most over e) =
      let at : ℕ = length (to_rule v n done) in
      let w : List ℕ = write_number kind in
      let e1 : drop at file ≡ w ++ (write_number m ++ t) = behind (to_rule v n done) (w ++ (write_number m ++ t)) e in
      to_rule_lem v n done (suc (n - length done - 1)) (w ++ (write_number m ++ t)) _ h (omega (arith, h.less)) e
      (rw (
        passed kind 0 kinds at _ (omega arith) (omega arith) l e1,
        passed m 1 nodes (at + length w) t (omega arith) some most (drop_past file at w (write_number m ++ t) e1),
        lt-ltb nodes (total done + m) over,
      )
      refl)
  faulty_refused r (lacks_terms v n done kind m ns terms o t i less e w l) =
      let at : ℕ = length (to_node v n done kind m ns) in
      to_node_lem v n done kind m ns terms (suc (m - length ns - 1)) (write_node o ++ t) _ i (omega arith) e
      (rw (node_written file v o at t w (behind (to_node v n done kind m ns) (write_node o ++ t) e), lt-ltb terms (takes o) l) refl)
  faulty_refused r (terms_left v n done kind m ns terms t i whole e l) =
      to_node_lem v n done kind m ns terms 0 t _ i (omega arith) e (rw (ne_eqb terms 1 l) refl)
  faulty_refused r (spare b c t valid e) =
      let v : List ℕ = write_number b.version in
      let n : List ℕ = write_number (length b.rules) in
      let rs : List ℕ = write_rules b.rules in
      let e0 : drop 0 file ≡ (v ++ (n ++ rs)) ++ (c ∷ t) = e in
      let e1 = second file 0 v (n ++ rs) (c ∷ t) e0 in
      let e2 = second file (0 + length v) n rs (c ∷ t) e1 in
      let there : 0 + length v + length n + length rs ≡ length (v ++ (n ++ rs)) =
      past_both (0 + length v) n rs ∙ past_both 0 v (n ++ rs) ∙ zero-add (length (v ++ (n ++ rs))) in
      let longer : length (v ++ (n ++ rs)) < length file = omega (arith, ap length e, length-append (v ++ (n ++ rs)) (c ∷ t)) in
      rw (
        passed b.version first_version last_version 0 _ (omega (arith, valid.known)) valid.known.0 valid.known.1 (first file 0 v _ _ e0),
        passed (length b.rules) 1 rules (0 + length v) _ (omega (arith, valid.few)) valid.some valid.few (first file (0 + length v) n _ _ e1),
        rules_written file b.version b.rules 0 (0 + length v + length n) (c ∷ t) valid.valid (omega (arith, valid.small)) e2,
        there,
        lt-ltb (length (v ++ (n ++ rs))) (length file) longer,
      )
      refl

-- both ways
pub faulty_exact : (file : List ℕ) (r : Refusal) → Bytes file → (read_book file ≡ refused r) ↔ Faulty file r
faulty_exact file r all = (refused_faulty file all r, faulty_refused file r)
