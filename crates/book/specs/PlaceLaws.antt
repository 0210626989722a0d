-- Where a rule's nodes begin: the code's way there, return by return, and that it ends at the place that Places defines.
-- From there the nodes are read one by one; ReadLawsPlaces says how each stands.
use Prim.Native.Nat.{ℕ, zero, suc, ◌+◌, ◌<◌, ◌≤◌}
use Rattle.std.proofs.Common.{arith, sym, ◌∙◌, lt-ltb, le-ltb}
use Rattle.std.specs.Prelude.{◌≡◌, refl, List, Some, None}
use Rattle.std.proofs.Math.Path.{ap}
use Rattle.std.proofs.Math.ListN.{length}
use Rattle.number.specs.Limits.{kinds, nodes}
use Rattle.number.specs.declared.Refusal.{Refusal}
use Rattle.number.specs.Refused.{Answer, Outcome}
use Rattle.number.specs.Refused.Answer.{got, refused}
use Rattle.number.specs.Refused.Outcome.{gives, refuses}
use Rattle.number.specs.Numbers.{Bytes, field}
use Rattle.number.proofs.NumberLaws.{field_read}
use Rattle.number.specs.Reading.{map_answer}
use Rattle.book.specs.declared.RulePlace.{RulePlace}
use Rattle.book.specs.Book.{Book}
use Rattle.book.specs.Reads.{more_nodes, read_book}
use Rattle.book.specs.Calls.{Size, size_of, kind_of}
use Rattle.book.specs.Calls.Told.{kind as tell_kind, none as tell_none}
use Rattle.book.specs.Places.{rule_of, rule_at, nodes_at}
use Rattle.book.specs.ReadLawsSteps.{clash}
use Rattle.book.specs.ReadLawsWritten.{nodes_written}
use Rattle.book.specs.ReadLawsPlaces.{RuleIn, rule_in_lem, rules_start}
use Rattle.book.specs.Answers.{read_head, find_rule, find_from, place_at, place_of}
use Rattle.book.specs.AnswerLaws.{made_of, refused_of, went, same_thing}
use Rattle.book.specs.CodeLaws.{counted, HeadRead, BookHead}

-- outcomes: what is given is no refusal, and equal ones give the same
not_given : {A : Type 0} {x : A} {r : Refusal} → ◌≡◌ {A = Outcome A} (gives x) (refuses r) → ⊥
not_given e = let z : ◌≡◌ {A = ℕ} 0 1 = cc in omega arith

same_given : {A : Type 0} {x y : A} → ◌≡◌ {A = Outcome A} (gives x) (gives y) → x ≡ y
same_given e = cc

module _ (file : List ℕ) where
  -- ---- the way to a rule

  pub head_got : (v at kind count m first : ℕ) → HeadRead file at kind count m first
      → read_head file v at ≡ got (record { version = v; kind = kind; nodes = m; at = first }) first
  unfolding read_head
  head_got v at kind count m first h = simp (h.kind_read, h.count_read)

  -- a node count is within its field
  pub head_few : (v at : ℕ) (p : RulePlace) (next : ℕ) → read_head file v at ≡ got p next → p.nodes ≤ nodes
  unfolding read_head
  head_few v at p next e =
      let kind = went (field file 0 kinds at) _ e in
      let m = went (field file 1 nodes kind.mid) _ kind.onto in
      let same : m.from ≡ p.nodes = ap (λ (x : RulePlace). x.nodes) (same_thing m.onto) in
      omega (arith, (field_read file 1 nodes kind.mid m.from m.mid m.read).high)

  pub find_head_refused : (v left at : ℕ) (r : Refusal) → read_head file v at ≡ refused r → find_rule file v left at ≡ refused r
  unfolding find_rule
  find_head_refused v zero at r e = e
  find_head_refused v (suc k) at r e = rw e

  pub find_here : (v left at : ℕ) → left ≡ 0 → find_rule file v left at ≡ read_head file v at
  unfolding find_rule
  find_here v left at z = rw z

  pub find_nodes_refused : (v left k at : ℕ) (p : RulePlace) (next : ℕ) (r : Refusal) → left ≡ suc k → read_head file v at ≡ got p next
      → counted file v p.nodes 0 next ≡ refused r → find_rule file v left at ≡ refused r
  unfolding find_rule
  find_nodes_refused v left k at p next r z e f = rw z (simp (e, refused_of length (more_nodes file v p.nodes 0 next) f))

  pub find_onward : (v left k at : ℕ) (p : RulePlace) (next size after : ℕ) → left ≡ suc k → read_head file v at ≡ got p next
      → counted file v p.nodes 0 next ≡ got size after → find_rule file v left at ≡ find_rule file v k after
  unfolding find_rule
  find_onward v left k at p next size after z e f =
      rw z (simp (e, (made_of length (more_nodes file v p.nodes 0 next) f).read))

  pub from_rules : (rule v count n first : ℕ) → BookHead file v count n first → find_from file rule 0 ≡ find_rule file v rule first
  unfolding find_from
  from_rules rule v count n first h = simp (h.version_read, h.count_read)

  -- ---- the place at the end of the way, by what is written before it

  module _ (b : Book) where
    head_at : (i : ℕ) → RuleIn file b i → read_head file b.version (rule_at b i) ≡ got (place_at b i) (nodes_at b i)
    head_at i r = head_got b.version (rule_at b i) _ _ _ (nodes_at b i) (record { kind_read = r.kind_read; count_read = r.count_read })

    -- the rule's nodes are read there, and the next rule follows them
    nodes_at_lem : (i : ℕ) → RuleIn file b i
        → more_nodes file b.version (length (rule_of b i).nodes) 0 (nodes_at b i) ≡ got (rule_of b i).nodes (rule_at b (i + 1))
    nodes_at_lem i r =
        nodes_written file b.version (rule_of b i).nodes 0 (nodes_at b i) _ r.valid.leaves r.nodes_stand
        ∙ ap (got (rule_of b i).nodes) r.next

    find_at : ((i : ℕ) → i < length b.rules → RuleIn file b i) → (k i j : ℕ) → j ≡ i + k → j < length b.rules
        → find_rule file b.version k (rule_at b i) ≡ got (place_at b j) (nodes_at b j)
    find_at stands zero i j e h =
        let same : i ≡ j = omega arith in
        rw same (find_here b.version 0 (rule_at b j) refl ∙ head_at j (stands j h))
    find_at stands (suc k) i j e h =
        let r = stands i (omega arith) in
        let past = ap (map_answer length) (nodes_at_lem i r) in
        find_onward b.version (suc k) k (rule_at b i) _ (nodes_at b i) (length (rule_of b i).nodes) (rule_at b (i + 1)) refl (head_at i r) past
        ∙ find_at stands k (i + 1) j (omega arith) h

    pub found_in : (after i : ℕ) → Bytes file → read_book file ≡ got b after → i < length b.rules
        → find_from file i 0 ≡ got (place_at b i) (nodes_at b i)
    found_in after i all e h =
        let starts = rules_start file b after all e in
        from_rules i b.version _ (length b.rules) (rule_at b 0) (record { version_read = starts.0; count_read = starts.1 })
        ∙ find_at (λ j. rule_in_lem file b after j all e) i 0 i (omega arith) h

  -- ---- the calls, from what checking a book told

  -- a book that was checked and has so many rules
  pub record Counted (n : ℕ) : Type 0 where
    pub b : Book
    pub after : ℕ
    pub read : read_book file ≡ got b after
    pub many : length b.rules ≡ n

  pub checked_counts : (n sum : ℕ) → size_of (read_book file) ≡ gives (record { rules = n; nodes = sum }) → Counted n
  checked_counts n sum = go (read_book file) refl
    where
      go : (x : Answer Book) → read_book file ≡ x → size_of x ≡ gives (record { rules = n; nodes = sum }) → Counted n
      go (got b after) f e = record { b = b; after = after; read = f; many = ap (λ (s : Size). s.rules) (same_given e) }
      go (refused r) f e = absurd (not_given (sym e))

  pub checked_refused : (r : Refusal) → size_of (read_book file) ≡ refuses r → read_book file ≡ refused r
  checked_refused r = go (read_book file)
    where
      go : (x : Answer Book) → size_of x ≡ refuses r → x ≡ refused r
      go (got b after) e = absurd (not_given e)
      go (refused q) e = cc

  -- a rule's kind
  pub kind_refused : (rule : ℕ) (r : Refusal) → size_of (read_book file) ≡ refuses r → kind_of file rule ≡ refuses r
  kind_refused rule r e = rw (checked_refused r e)

  pub kind_none : (rule n sum : ℕ) → size_of (read_book file) ≡ gives (record { rules = n; nodes = sum }) → n ≤ rule
      → kind_of file rule ≡ gives tell_none
  kind_none rule n sum e h =
      let c = checked_counts n sum e in
      let past : length c.b.rules ≤ rule = omega arith in
      rw (c.read, le-ltb _ _ past)

  -- past the check a rule is found
  found_counted : (rule n sum : ℕ) → Bytes file → size_of (read_book file) ≡ gives (record { rules = n; nodes = sum }) → rule < n
      → (c : Counted n) × (find_from file rule 0 ≡ got (place_at c.b rule) (nodes_at c.b rule)) × (rule < length c.b.rules)
  found_counted rule n sum all e h =
      let c = checked_counts n sum e in
      let within : rule < length c.b.rules = omega (arith, c.many) in
      (c, found_in c.b c.after rule all c.read within, within)

  not_lost : (rule n sum : ℕ) (r : Refusal) → Bytes file → size_of (read_book file) ≡ gives (record { rules = n; nodes = sum })
      → rule < n → find_from file rule 0 ≡ refused r → ⊥
  not_lost rule n sum r all e h f = clash (sym f ∙ (found_counted rule n sum all e h).1)

  pub kind_lost : (rule n sum : ℕ) (r : Refusal) → Bytes file → size_of (read_book file) ≡ gives (record { rules = n; nodes = sum })
      → rule < n → find_from file rule 0 ≡ refused r → kind_of file rule ≡ refuses r
  kind_lost rule n sum r all e h f = absurd (not_lost rule n sum r all e h f)

  pub kind_found : (rule n sum : ℕ) (p : RulePlace) → Bytes file → size_of (read_book file) ≡ gives (record { rules = n; nodes = sum })
      → rule < n → find_from file rule 0 ≡ got p p.at → kind_of file rule ≡ gives (tell_kind p.kind)
  kind_found rule n sum p all e h f =
      let (c, found, within) = found_counted rule n sum all e h in
      let same : p ≡ place_at c.b rule = same_thing (sym f ∙ found) in
      rw (c.read, lt-ltb _ _ within, same)

  -- a rule's place
  pub place_lost : (rule n sum : ℕ) (r : Refusal) → Bytes file → size_of (read_book file) ≡ gives (record { rules = n; nodes = sum })
      → rule < n → find_from file rule 0 ≡ refused r → place_of file rule ≡ None
  place_lost rule n sum r all e h f = absurd (not_lost rule n sum r all e h f)

  pub place_found : (rule n sum : ℕ) (p : RulePlace) → Bytes file → size_of (read_book file) ≡ gives (record { rules = n; nodes = sum })
      → rule < n → find_from file rule 0 ≡ got p p.at → place_of file rule ≡ Some p
  place_found rule n sum p all e h f =
      let (c, found, within) = found_counted rule n sum all e h in
      let same : p ≡ place_at c.b rule = same_thing (sym f ∙ found) in
      rw (c.read, lt-ltb _ _ within, same)

  -- ---- for the layers above

  -- the place of a rule of a book that was read
  pub place_known : (b : Book) (after i : ℕ) → read_book file ≡ got b after → i < length b.rules → place_of file i ≡ Some (place_at b i)
  place_known b after i e h = rw (e, lt-ltb _ _ h)
