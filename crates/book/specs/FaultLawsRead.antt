-- What the reader refuses is faulty: it is walked from the file's start on, with all that was read so far standing before the place.
-- Each step either meets its fault there or goes on with one part more that stands.
use Prim.Native.Nat.{ℕ, zero, suc, ◌+◌, ◌-◌, ◌≤◌}
use native.Mathlib.Omega.{arith}
use Rattle.std.specs.Prelude.{◌≡◌, Bool, true, false, not, cond, ltb, eqb}
use Rattle.std.proofs.Math.Path.{refl, sym, ap, subst}
use Rattle.std.proofs.Common.{◌∙◌}
use mathlib.Core.List.{List, [], ◌∷◌, ◌++◌, append_assoc, append-nil}
use borrow.Author.Tests.{ltb-true, ltb-false, eqb-true, eq-eqb}
use Rattle.std.proofs.Math.ListN.{length, get_or, drop, length-append}
use Rattle.number.specs.declared.Refusal.{Refusal}
use Rattle.number.specs.declared.Refusal.TheVariants.{Range as OutOfRange, Stack, Tail}
use Rattle.number.specs.Limits.{first_version, last_version, rules, kinds, nodes, last_byte, first_letter, last_letter}
use Rattle.number.specs.Limits.{code_nothing, code_empty, code_range, code_cat, code_alt, code_star, code_either, code_and, code_not}
use Rattle.number.specs.Refused.{Answer}
use Rattle.number.specs.Refused.Answer.{got, refused}
use Rattle.number.specs.Numbers.{Bytes, read_number, field, write_number, NumberAt}
use Rattle.number.specs.Reading.{Reader, onward, answer}
use Rattle.number.specs.Branch.{by_cond}
use Rattle.number.specs.Lists.{drop_one}
use Rattle.number.proofs.NumberLaws.{written_read, field_read}
use Rattle.number.proofs.FaultLaws.{refused_fault, refused_field}
use Rattle.meaning.specs.Tests.{clash as untrue}
use Rattle.book.specs.declared.Node.{Node}
use Rattle.book.specs.Book.{Rule, Book, listed, allowed, takes, total, write_node, write_nodes, write_rule, write_rules, write_book}
use Rattle.book.specs.Reads.{read_range, read_either, read_after, read_node, more_nodes, more_rules, book, read_book}
use Rattle.book.specs.Valid.{Allowed, Within, ValidRule, AllValid, Known}
use Rattle.book.specs.ReadLawsSteps.{clash, not-true, not-false, ByAnswer, Stands, stands_none, stands_more}
use Rattle.book.specs.ReadLaws.{node_read_lem, nodes_read_lem, rules_read}
use Rattle.book.specs.ReadLawsPlaces.{rules_append}
use Rattle.book.specs.Faults.{Makes, to_rule, Begun, to_node, Inside, DueInNode, Due, CodeFault, Faulty}
use Rattle.book.specs.Faults.DueInNode.{low, high, letter}
use Rattle.book.specs.Faults.Due.{due_version, due_rules, due_kind, due_nodes, due_node}
use Rattle.book.specs.Faults.CodeFault.{no_number, no_code}
use Rattle.book.specs.Faults.Faulty.{number, code, too_many, lacks_terms, terms_left, spare}

-- ---- claims about refusals alone

abbrev Faults : {A : Type 0} → (Refusal → Type 0) → Answer A → Type 0
Faults R x = ByAnswer (λ a next. Unit {0}) R x

on_faults : {A B : Type 0} (R : Refusal → Type 0) (m : Answer A) (f : A → Reader B) → ((r : Refusal) → m ≡ refused r → R r)
    → ((x : A) (next : ℕ) → m ≡ got x next → Faults R (f x next)) → Faults R (onward m f)
on_faults R (got x next) f h k = k x next refl
on_faults R (refused r) f h k = h r refl

on_test : {B : Type 0} (R : Refusal → Type 0) (test : Bool) (r : Refusal) (at : ℕ) (n : Reader B) → (test ≡ true → R r)
    → (test ≡ false → Faults R (n at)) → Faults R (onward (cond test (refused r) (got tt at)) (λ (_ : Unit {0}). n))
on_test R true r at n h k = h refl
on_test R false r at n h k = k refl

faults_of : {A : Type 0} (R : Refusal → Type 0) (m : Answer A) (r : Refusal) → Faults R m → m ≡ refused r → R r
faults_of R (got x next) r h e = absurd (clash (sym e))
faults_of R (refused q) r h e = let same : q ≡ r = cc in subst R same h

not_one : (terms : ℕ) → not (eqb terms 1) ≡ true → terms ≡ 1 → ⊥
not_one terms e h = untrue (eq-eqb terms 1 h) (not-true (eqb terms 1) e)

-- ---- one part more

makes_more : (v : ℕ) (ns : List Node) (o : Node) (t u : ℕ) → Makes v t ns u → Within v o → takes o ≤ u
    → Makes v t (ns ++ (o ∷ [])) (u - takes o + 1)
makes_more v [] o t u h w k = (w, omega arith, rw h refl)
makes_more v (n ∷ ns) o t u h w k = (h.0, h.1, makes_more v ns o (t - takes n + 1) u h.2 w k)

nodes_append : (ns : List Node) (o : Node) → write_nodes (ns ++ (o ∷ [])) ≡ write_nodes ns ++ write_node o
unfolding write_nodes
nodes_append [] o = append-nil (write_node o)
nodes_append (n ∷ ns) o = ap (λ (t : List ℕ). write_node n ++ t) (nodes_append ns o) ∙ sym (append_assoc (write_node n) (write_nodes ns) (write_node o))

valid_more : (v : ℕ) (rs : List Rule) (r : Rule) → AllValid v rs → ValidRule v r → AllValid v (rs ++ (r ∷ []))
valid_more v [] r h k = (k, tt)
valid_more v (q ∷ rs) r h k = (h.0, valid_more v rs r h.1 k)

total_more : (rs : List Rule) (r : Rule) → total (rs ++ (r ∷ [])) ≡ total rs + length r.nodes
unfolding total
total_more [] r = omega arith
total_more (q ∷ rs) r = omega (arith, total_more rs r)

rule_more : (v n : ℕ) (done : List Rule) (r : Rule) → to_rule v n done ++ write_rule r ≡ to_rule v n (done ++ (r ∷ []))
unfolding write_rules
rule_more v n done r = simp (rules_append done (r ∷ []), append_assoc, append-nil)

node_more : (v n : ℕ) (done : List Rule) (kind m : ℕ) (ns : List Node) (o : Node)
    → to_node v n done kind m ns ++ write_node o ≡ to_node v n done kind m (ns ++ (o ∷ []))
node_more v n done kind m ns o = simp (nodes_append ns o, append_assoc)

stands_as : {file : List ℕ} {at next : ℕ} {v w : List ℕ} → v ≡ w → Stands file at v next → Stands file at w next
stands_as {file} {at} {next} e h = subst (λ (t : List ℕ). Stands file at t next) e h

module _ (file : List ℕ) (all : Bytes file) where
  number_stands : (lo hi at n next : ℕ) → field file lo hi at ≡ got n next → Stands file at (write_number n) next
  number_stands lo hi at n next e =
      let w = written_read file at n next all (field_read file lo hi at n next e).read in
      record { stands = w.stands; after = w.after; inside = w.inside }

  -- a number that is due, and is refused where it is
  number_fault : (w : List ℕ) (lo hi at : ℕ) (r : Refusal) → Due w lo hi → Stands file 0 w at → field file lo hi at ≡ refused r → Faulty file r
  number_fault w lo hi at r due s e =
      let place : at ≡ length w = omega (arith, s.after) in
      number w (drop at file) lo hi due s.stands (refused_field file lo hi (length w) r all (ap (field file lo hi) (sym place) ∙ e))

  -- ---- a node

  -- what stops at the code of a node at a place, and at a number behind it
  abbrev StopsAt : ℕ → ℕ → Type 0
  StopsAt v at = (r : Refusal) → CodeFault file v at r → Faulty file r

  abbrev Stops : ℕ → ℕ → Type 0
  Stops v at = (w : List ℕ) (lo hi mid : ℕ) (r : Refusal) → DueInNode v w lo hi → Stands file at w mid → field file lo hi mid ≡ refused r → Faulty file r

  -- a number that is no code is none that the version has
  no_other : (v c : ℕ) → Allowed v c → eqb c code_nothing ≡ false → eqb c code_empty ≡ false → eqb c code_range ≡ false → eqb c code_cat ≡ false
      → eqb c code_alt ≡ false → eqb c code_star ≡ false → eqb c code_either ≡ false → eqb c code_and ≡ false → eqb c code_not ≡ false → ⊥
  unfolding allowed
  no_other v c known e0 e1 e2 e3 e4 e5 e6 e7 e8 =
      untrue known
      (by_cond (λ (cs : List ℕ). listed cs c ≡ false) (eqb v first_version)
      (λ _. rw (e0, e1, e2, e3, e4, e5, e6) refl)
      (λ _. rw (e0, e1, e2, e3, e4, e5, e6, e7, e8) refl))

  module _ (v c at next : ℕ) (s : Stands file at (write_number c) next) (stop-at : StopsAt v at) (stop : Stops v at) where
    code_is : (k : ℕ) → Allowed v c → eqb c k ≡ true → Allowed v k × Stands file at (write_number k) next
    code_is k known e = let same : c ≡ k = eqb-true c k e in (rw same at known, rw same at s)

    range_faults : Allowed v code_range → Stands file at (write_number code_range) next → Faults (Faulty file) (read_range file next)
    unfolding read_range
    range_faults known stood =
        on_faults (Faulty file) (field file 0 last_byte next) _
        (λ r e. stop (write_number code_range) 0 last_byte next r (low known) stood e)
        λ lo mid e.
        on_faults (Faulty file) (field file lo last_byte mid) _
        (λ r f. stop (write_number code_range ++ write_number lo) lo last_byte mid r (high known lo (field_read file 0 last_byte next lo mid e).high)
        (stands_more file (write_number code_range) (write_number lo) stood (number_stands 0 last_byte next lo mid e)) f)
        λ hi end f. tt

    either_faults : Allowed v code_either → Stands file at (write_number code_either) next → Faults (Faulty file) (read_either file next)
    unfolding read_either
    either_faults known stood =
        on_faults (Faulty file) (field file first_letter last_letter next) _
        (λ r e. stop (write_number code_either) first_letter last_letter next r (letter known) stood e)
        λ x end e. tt

    abbrev Tells : Reader Node → Type 0
    Tells m = Faults (Faulty file) (m next)

    after_faults : NumberAt file at c next → Tells (read_after file v at c)
    unfolding read_after
    after_faults there =
        by_cond Tells (not (allowed v c)) (λ e. stop-at (OutOfRange at) (no_code c next there (not-true (allowed v c) e))) λ e.
        let known : Allowed v c = not-false (allowed v c) e in
        by_cond Tells (eqb c code_nothing) (λ t. tt) λ e0.
        by_cond Tells (eqb c code_empty) (λ t. tt) λ e1.
        by_cond Tells (eqb c code_range) (λ t. let (fits, stood) = code_is code_range known t in range_faults fits stood) λ e2.
        by_cond Tells (eqb c code_cat) (λ t. tt) λ e3.
        by_cond Tells (eqb c code_alt) (λ t. tt) λ e4.
        by_cond Tells (eqb c code_star) (λ t. tt) λ e5.
        by_cond Tells (eqb c code_either) (λ t. let (fits, stood) = code_is code_either known t in either_faults fits stood) λ e6.
        by_cond Tells (eqb c code_and) (λ t. tt) λ e7.
        by_cond Tells (eqb c code_not) (λ t. tt) λ e8.
        absurd (no_other v c known e0 e1 e2 e3 e4 e5 e6 e7 e8)

  node_faults : (v at : ℕ) → StopsAt v at → Stops v at → Faults (Faulty file) (read_node file v at)
  unfolding read_node
  node_faults v at stop-at stop =
      on_faults (Faulty file) (read_number file at) _
      (λ r e. stop-at r (no_number r _ (refused_fault file at r e)))
      λ c next e.
      let there = written_read file at c next all e in
      after_faults v c at next (record { stands = there.stands; after = there.after; inside = there.inside }) stop-at stop there

  -- ---- the nodes of a rule, behind those that are done

  nodes_faults : (v n : ℕ) (done : List Rule) (kind m k : ℕ) (ns : List Node) (terms at : ℕ) → Inside v n done kind m ns terms
      → length ns + k ≡ m → Stands file 0 (to_node v n done kind m ns) at → Faults (Faulty file) (more_nodes file v k terms at)
  unfolding more_nodes
  nodes_faults v n done kind m zero ns terms at i many s =
      on_test (Faulty file) (not (eqb terms 1)) (Stack at) at (answer [])
      (λ e.
      let there : length (to_node v n done kind m ns) ≡ at = omega (arith, s.after) in
      subst (λ (p : ℕ). Faulty file (Stack p)) there
      (terms_left v n done kind m ns terms (drop at file) i (omega arith) s.stands (not_one terms e)))
      λ e. tt
  nodes_faults v n done kind m (suc k) ns terms at i many s =
      let there : length (to_node v n done kind m ns) ≡ at = omega (arith, s.after) in
      on_faults (Faulty file) (read_node file v at) _
      (λ r e. faults_of (Faulty file) (read_node file v at) r (node_faults v at
      (λ q f. code v n done kind m ns terms (drop at file) i (omega arith) s.stands (subst (λ (p : ℕ). CodeFault file v p q) (sym there) f))
      λ w lo hi mid q d p f. number_fault _ lo hi mid q (due_node v n done kind m ns terms w lo hi i (omega arith) d)
      (stands_more file (to_node v n done kind m ns) w s p) f) e)
      λ o mid e.
      let node = node_read_lem file v at o mid all s.inside e in
      on_test (Faulty file) (ltb terms (takes o)) (Stack at) mid _
      (λ t.
      subst (λ (p : ℕ). Faulty file (Stack p)) there
      (lacks_terms v n done kind m ns terms o (drop mid file) i (omega arith)
      (s.stands ∙ ap (λ (x : List ℕ). to_node v n done kind m ns ++ x) node.stands.stands) node.within (ltb-true _ _ t)))
      λ t.
      let more = nodes_faults v n done kind m k (ns ++ (o ∷ [])) (terms - takes o + 1) mid
      (record {
        begun = i.begun;
        kind_fits = i.kind_fits;
        some = i.some;
        small = i.small;
        makes = makes_more v ns o 0 terms i.makes node.within (ltb-false _ _ t);
      })
      (omega (arith, length-append ns (o ∷ [])))
      (stands_as (node_more v n done kind m ns o) (stands_more file (to_node v n done kind m ns) (write_node o) s node.stands)) in
      on_faults (Faulty file) (more_nodes file v k (terms - takes o + 1) mid) _
      (λ r f. faults_of (Faulty file) (more_nodes file v k (terms - takes o + 1) mid) r more f)
      λ rest end f. tt

  -- ---- the rules of a book, behind those that are done

  rules_faults : (v n k : ℕ) (done : List Rule) (used at : ℕ) → Known v → 1 ≤ n → n ≤ rules → AllValid v done → used ≡ total done → used ≤ nodes
      → length done + k ≡ n → Stands file 0 (to_rule v n done) at → Faults (Faulty file) (more_rules file v k used at)
  unfolding more_rules write_nodes write_rule
  rules_faults v n zero done used at known some few valid sum small many s = tt
  rules_faults v n (suc k) done used at known some few valid sum small many s =
      let begun : Begun v n done = record { known = known; some = some; few = few; valid = valid; small = omega arith; less = omega arith } in
      on_faults (Faulty file) (field file 0 kinds at) _
      (λ r e. number_fault (to_rule v n done) 0 kinds at r (due_kind v n done begun) s e)
      λ kind at_count e.
      let s1 = number_stands 0 kinds at kind at_count e in
      let fits : kind ≤ kinds = (field_read file 0 kinds at kind at_count e).high in
      let next : at_count ≡ length (to_rule v n done) + length (write_number kind) = omega (arith, s.after, s1.after) in
      let stood : file ≡ to_rule v n done ++ (write_number kind ++ drop at_count file) =
      s.stands ∙ ap (λ (x : List ℕ). to_rule v n done ++ x) s1.stands in
      on_faults (Faulty file) (field file 1 nodes at_count) _
      (λ r f. number_fault _ 1 nodes at_count r (due_nodes v n done kind begun fits) (stands_more file (to_rule v n done) (write_number kind) s s1) f)
      λ m first f.
      let s2 = number_stands 1 nodes at_count m first f in
      let count = field_read file 1 nodes at_count m first f in
      on_test (Faulty file) (ltb nodes (used + m)) (OutOfRange at_count) first _
      (λ t.
      subst (λ (p : ℕ). Faulty file (OutOfRange p)) (sym next)
      (too_many v n done kind m (drop first file) begun fits count.low count.high (omega (arith, ltb-true nodes (used + m) t))
      (stood ∙ ap (λ (x : List ℕ). to_rule v n done ++ (write_number kind ++ x)) s2.stands)))
      λ t.
      let less : used + m ≤ nodes = ltb-false nodes (used + m) t in
      let inside : Inside v n done kind m [] 0 =
      record { begun = begun; kind_fits = fits; some = count.low; small = omega arith; makes = refl } in
      let all-nodes = nodes_faults v n done kind m m [] 0 first inside (omega arith)
      (stands_more file (to_rule v n done) _ s (stands_more file (write_number kind) _ s1
      (stands_more file (write_number m) [] s2 (stands_none file first s2.inside)))) in
      on_faults (Faulty file) (more_nodes file v m 0 first) _
      (λ r g. faults_of (Faulty file) (more_nodes file v m 0 first) r all-nodes g)
      λ ns end g.
      let body = nodes_read_lem file v m 0 first ns end all s2.inside g in
      let rule : Rule = record { kind = kind; nodes = ns } in
      let same : m ≡ length ns = sym body.many in
      let ok : ValidRule v rule = record { kind_fits = fits; some = omega (arith, count.low); leaves = body.leaves } in
      let count-stands : Stands file at_count (write_number (length ns)) first = subst (λ (x : ℕ). Stands file at_count (write_number x) first) same s2 in
      let more = rules_faults v n k (done ++ (rule ∷ [])) (used + m) end known some few (valid_more v done rule valid ok)
      (omega (arith, total_more done rule)) less (omega (arith, length-append done (rule ∷ [])))
      (stands_as (rule_more v n done rule) (stands_more file (to_rule v n done) (write_rule rule) s (stands_more file (write_number kind) _ s1
      (stands_more file (write_number (length ns)) (write_nodes ns) count-stands body.stands)))) in
      on_faults (Faulty file) (more_rules file v k (used + m) end) _
      (λ r o. faults_of (Faulty file) (more_rules file v k (used + m) end) r more o)
      λ rest last o. tt

  -- ---- the whole file

  book_faults : Faults (Faulty file) (read_book file)
  unfolding book write_rules write_book total
  book_faults =
      on_faults (Faulty file) (field file first_version last_version 0) _
      (λ r e. number_fault [] first_version last_version 0 r due_version (stands_none file 0 (omega arith)) e)
      λ v at_rules e.
      let known = field_read file first_version last_version 0 v at_rules e in
      let s1 = number_stands first_version last_version 0 v at_rules e in
      on_faults (Faulty file) (field file 1 rules at_rules) _
      (λ r f. number_fault (write_number v) 1 rules at_rules r (due_rules v (known.low, known.high)) s1 f)
      λ n first f.
      let count = field_read file 1 rules at_rules n first f in
      let s2 = number_stands 1 rules at_rules n first f in
      let all-rules = rules_faults v n n [] 0 first (known.low, known.high) count.low count.high tt refl (omega arith) (omega arith)
      (stands_more file (write_number v) _ s1 (stands_more file (write_number n) [] s2 (stands_none file first s2.inside))) in
      on_faults (Faulty file) (more_rules file v n 0 first) _
      (λ r g. faults_of (Faulty file) (more_rules file v n 0 first) r all-rules g)
      λ rs last g.
      let body = rules_read file v n 0 first rs last all (omega arith) s2.inside g in
      let b : Book = record { version = v; rules = rs } in
      on_test (Faulty file) (ltb last (length file)) (Tail last) last _
      (λ t.
      let many : n ≡ length rs = sym body.many in
      let whole : Stands file 0 (write_book b) last =
      stands_more file (write_number v) _ s1
      (stands_more file (write_number (length rs)) (write_rules rs)
      (subst (λ (x : ℕ). Stands file at_rules (write_number x) first) many s2) body.stands) in
      let left : drop last file ≡ get_or file last 0 ∷ drop (last + 1) file = drop_one file last (ltb-true _ _ t) in
      let end : length (write_book b) ≡ last = omega (arith, whole.after) in
      subst (λ (p : ℕ). Faulty file (Tail p)) end
      (spare b (get_or file last 0) (drop (last + 1) file)
      (record {
        known = (known.low, known.high);
        some = omega (arith, count.low);
        few = omega (arith, count.high);
        valid = body.valid;
        small = omega (arith, body.small);
      })
      (whole.stands ∙ ap (λ (x : List ℕ). write_book b ++ x) left)))
      λ t. tt

  pub refused_faulty : (r : Refusal) → read_book file ≡ refused r → Faulty file r
  refused_faulty r e = faults_of (Faulty file) (read_book file) r book_faults e
