-- The nodes of a rule, the rules of a book and a whole book, return by return, as the code meets them: the code's proofs cite one law a return.
-- Also how many nodes and rules such a reading got, wherever it began; ReadLaws tells more of a book that was read whole.
use Prim.Native.Nat.{ℕ, zero, suc, ◌+◌, ◌-◌, ◌<◌, ◌≤◌}
use native.Mathlib.Omega.{arith}
use Rattle.std.specs.Prelude.{◌≡◌, not, List, ◌∷◌, ltb, eqb}
use Rattle.std.proofs.Math.Path.{refl, sym, ap}
use Rattle.std.proofs.Common.{◌∙◌}
use borrow.Author.Tests.{lt-ltb, le-ltb, eq-eqb, ne_eqb, ltb-false}
use Rattle.std.proofs.Math.ListN.{length}
use Rattle.number.specs.Limits.{first_version, last_version, rules, kinds, nodes}
use Rattle.number.specs.declared.Refusal.{Refusal}
use Rattle.number.specs.declared.Refusal.TheVariants.{Range as OutOfRange, Stack, Tail}
use Rattle.number.specs.Refused.{Answer}
use Rattle.number.specs.Refused.Answer.{got, refused}
use Rattle.number.specs.Refused.Outcome.{gives}
use Rattle.number.specs.Numbers.{field}
use Rattle.number.specs.Reading.{onward, end, map_answer}
use Rattle.book.specs.declared.Node.{Node}
use Rattle.book.specs.Book.{Rule, takes, total}
use Rattle.book.specs.Reads.{read_node, more_nodes, more_rules, book, read_book}
use Rattle.book.specs.Calls.{size_of}
use Rattle.book.specs.AnswerLaws.{same_thing, same_place, got_is, made_of, refused_of, went, passed}

module _ (file : List ℕ) where
  -- ---- the nodes of a rule, counted

  abbrev pub counted : ℕ → ℕ → ℕ → ℕ → Answer ℕ
  counted v left terms at = map_answer length (more_nodes file v left terms at)

  pub nodes_one_left : (v left terms at : ℕ) → left ≡ 0 → terms ≡ 1 → counted v left terms at ≡ got 0 at
  unfolding more_nodes
  nodes_one_left v left terms at z e = rw z (simp (eq-eqb _ _ e))

  pub nodes_not_one : (v left terms at : ℕ) → left ≡ 0 → (terms ≡ 1 → ⊥) → counted v left terms at ≡ refused (Stack at)
  unfolding more_nodes
  nodes_not_one v left terms at z e = rw z (simp (ne_eqb _ _ e))

  pub nodes_refused : (v left k terms at : ℕ) (r : Refusal) → left ≡ suc k → read_node file v at ≡ refused r
      → counted v left terms at ≡ refused r
  unfolding more_nodes
  nodes_refused v left k terms at r z e = rw z (simp e)

  pub nodes_lack : (v left k terms at : ℕ) (n : Node) (next needs : ℕ) → left ≡ suc k → read_node file v at ≡ got n next
      → needs ≡ takes n → terms < needs → counted v left terms at ≡ refused (Stack at)
  unfolding more_nodes
  nodes_lack v left k terms at n next needs z e f h =
      let lack : terms < takes n = omega arith in
      rw z (simp (e, lt-ltb _ _ lack))

  -- one node and the rest
  nodes_step : (v k terms at : ℕ) (n : Node) (next more : ℕ) → read_node file v at ≡ got n next → takes n ≤ terms
      → more ≡ terms - takes n + 1
      → more_nodes file v (suc k) terms at ≡ onward (more_nodes file v k more next) (λ (ns : List Node) (after : ℕ). got (n ∷ ns) after)
  unfolding more_nodes
  nodes_step v k terms at n next more e h m = rw m (simp (e, le-ltb _ _ h))

  pub nodes_rest_refused : (v left k terms at : ℕ) (n : Node) (next needs more : ℕ) (r : Refusal) → left ≡ suc k
      → read_node file v at ≡ got n next → needs ≡ takes n → needs ≤ terms → more ≡ terms + 1 - needs
      → counted v k more next ≡ refused r → counted v left terms at ≡ refused r
  nodes_rest_refused v left k terms at n next needs more r z e f h m rest =
      let step = nodes_step v k terms at n next more e (omega arith) (omega arith) in
      rw (z, step, refused_of length (more_nodes file v k more next) rest)

  pub nodes_rest_got : (v left k terms at : ℕ) (n : Node) (next needs more count after : ℕ) → left ≡ suc k
      → read_node file v at ≡ got n next → needs ≡ takes n → needs ≤ terms → more ≡ terms + 1 - needs
      → counted v k more next ≡ got count after → counted v left terms at ≡ got (count + 1) after
  nodes_rest_got v left k terms at n next needs more count after z e f h m rest =
      let step = nodes_step v k terms at n next more e (omega arith) (omega arith) in
      let made = made_of length (more_nodes file v k more next) rest in
      let size : suc (length made.from) ≡ count + 1 = omega arith in
      rw (z, step, made.read, size)

  -- what reading a node and the rest met
  pub record NodesRead (v k terms at : ℕ) (ns : List Node) (after : ℕ) : Type 0 where
    pub node : Node
    pub rest : List Node
    pub next : ℕ
    pub node_read_lem : read_node file v at ≡ got node next
    pub enough : takes node ≤ terms
    pub rest_read : more_nodes file v k (terms - takes node + 1) next ≡ got rest after
    pub all : ns ≡ node ∷ rest

  pub nodes_read_lem : (v k terms at : ℕ) (ns : List Node) (after : ℕ) → more_nodes file v (suc k) terms at ≡ got ns after
      → NodesRead v k terms at ns after
  unfolding more_nodes
  nodes_read_lem v k terms at ns after e =
      let n = went (read_node file v at) _ e in
      let enough = passed (ltb terms (takes n.from)) (Stack at) n.mid _ n.onto in
      let rest = went (more_nodes file v k (terms - takes n.from + 1) n.mid) _ enough.1 in
      record {
        node = n.from;
        rest = rest.from;
        next = n.mid;
        node_read_lem = n.read;
        enough = ltb-false terms (takes n.from) enough.0;
        rest_read = got_is rest.read refl (same_place rest.onto);
        all = sym (same_thing rest.onto);
      }

  -- as many nodes are read as are asked for
  pub nodes_many : (v left terms at : ℕ) (ns : List Node) (after : ℕ) → more_nodes file v left terms at ≡ got ns after → length ns ≡ left
  unfolding more_nodes
  nodes_many v zero terms at ns after e =
      let ends = passed (not (eqb terms 1)) (Stack at) at _ e in
      ap length (sym (same_thing ends.1))
  nodes_many v (suc k) terms at ns after e =
      let r = nodes_read_lem v k terms at ns after e in
      ap length r.all ∙ ap suc (nodes_many v k _ _ r.rest after r.rest_read)

  -- ---- the rules of a book, their nodes summed up

  abbrev pub summed : ℕ → ℕ → ℕ → ℕ → Answer ℕ
  summed v left used at = map_answer total (more_rules file v left used at)

  pub rules_none : (v left used at : ℕ) → left ≡ 0 → summed v left used at ≡ got 0 at
  unfolding more_rules total
  rules_none v left used at z = rw z

  pub rules_kind_refused : (v left k used at : ℕ) (r : Refusal) → left ≡ suc k → field file 0 kinds at ≡ refused r
      → summed v left used at ≡ refused r
  unfolding more_rules
  rules_kind_refused v left k used at r z e = rw z (simp e)

  -- a rule's kind and its node count, which starts at `count`
  pub record HeadRead (at kind count m first : ℕ) : Type 0 where
    pub kind_read : field file 0 kinds at ≡ got kind count
    pub count_read : field file 1 nodes count ≡ got m first

  pub rules_count_refused : (v left k used at kind count : ℕ) (r : Refusal) → left ≡ suc k → field file 0 kinds at ≡ got kind count
      → field file 1 nodes count ≡ refused r → summed v left used at ≡ refused r
  unfolding more_rules
  rules_count_refused v left k used at kind count r z e f = rw z (simp (e, f))

  pub rules_over : (v left k used at kind count m first : ℕ) → left ≡ suc k → HeadRead at kind count m first
      → nodes < used + m → summed v left used at ≡ refused (OutOfRange count)
  unfolding more_rules
  rules_over v left k used at kind count m first z h over = rw z (simp (h.kind_read, h.count_read, lt-ltb _ _ over))

  -- one rule and the rest
  rules_step : (v k used at kind count m first : ℕ) → HeadRead at kind count m first → used + m ≤ nodes
      → more_rules file v (suc k) used at
      ≡ onward (more_nodes file v m 0 first) (λ (ns : List Node) (next : ℕ).
      onward (more_rules file v k (used + m) next) (λ (rs : List Rule) (after : ℕ). got (record { kind = kind; nodes = ns } ∷ rs) after))
  unfolding more_rules
  rules_step v k used at kind count m first h few = simp (h.kind_read, h.count_read, le-ltb _ _ few)

  pub rules_nodes_refused : (v left k used at kind count m first : ℕ) (r : Refusal) → left ≡ suc k
      → HeadRead at kind count m first → used + m ≤ nodes → counted v m 0 first ≡ refused r
      → summed v left used at ≡ refused r
  rules_nodes_refused v left k used at kind count m first r z h few e =
      let step = rules_step v k used at kind count m first h few in
      rw (z, step, refused_of length (more_nodes file v m 0 first) e)

  pub rules_rest_refused : (v left k used at kind count m first size next : ℕ) (r : Refusal) → left ≡ suc k
      → HeadRead at kind count m first → used + m ≤ nodes → counted v m 0 first ≡ got size next
      → summed v k (used + m) next ≡ refused r → summed v left used at ≡ refused r
  rules_rest_refused v left k used at kind count m first size next r z h few e rest =
      let step = rules_step v k used at kind count m first h few in
      let nodes-made = made_of length (more_nodes file v m 0 first) e in
      rw (z, step, nodes-made.read, refused_of total (more_rules file v k (used + m) next) rest)

  pub rules_rest_got : (v left k used at kind count m first size next more after : ℕ) → left ≡ suc k
      → HeadRead at kind count m first → used + m ≤ nodes → counted v m 0 first ≡ got size next
      → summed v k (used + m) next ≡ got more after → summed v left used at ≡ got (m + more) after
  unfolding total
  rules_rest_got v left k used at kind count m first size next more after z h few e rest =
      let step = rules_step v k used at kind count m first h few in
      let nodes-made = made_of length (more_nodes file v m 0 first) e in
      let rules-made = made_of total (more_rules file v k (used + m) next) rest in
      let many : length nodes-made.from ≡ m = nodes_many v m 0 first nodes-made.from next nodes-made.read in
      rw (z, step, nodes-made.read, rules-made.read, many, rules-made.makes)

  -- what reading a rule and the rest met: the rest, and where it was read
  record RuleRead (v k : ℕ) (rs : List Rule) (after : ℕ) : Type 0 where
    rule : Rule
    rest : List Rule
    used : ℕ
    next : ℕ
    rest_read : more_rules file v k used next ≡ got rest after
    all : rs ≡ rule ∷ rest

  record HeadIn (used at : ℕ) : Type 0 where
    kind : ℕ
    count : ℕ
    m : ℕ
    first : ℕ
    head : HeadRead at kind count m first
    few : used + m ≤ nodes

  head_in : (v k used at : ℕ) (rs : List Rule) (after : ℕ) → more_rules file v (suc k) used at ≡ got rs after → HeadIn used at
  unfolding more_rules
  head_in v k used at rs after e =
      let kind = went (field file 0 kinds at) _ e in
      let m = went (field file 1 nodes kind.mid) _ kind.onto in
      let few = passed (ltb nodes (used + m.from)) (OutOfRange kind.mid) m.mid _ m.onto in
      record {
        kind = kind.from;
        count = kind.mid;
        m = m.from;
        first = m.mid;
        head = record { kind_read = kind.read; count_read = m.read };
        few = ltb-false nodes (used + m.from) few.0;
      }

  rule_read : (v k used at : ℕ) (rs : List Rule) (after : ℕ) → more_rules file v (suc k) used at ≡ got rs after → RuleRead v k rs after
  rule_read v k used at rs after e =
      let h = head_in v k used at rs after e in
      let step = rules_step v k used at h.kind h.count h.m h.first h.head h.few in
      let ns = went (more_nodes file v h.m 0 h.first) _ (sym step ∙ e) in
      let rest = went (more_rules file v k (used + h.m) ns.mid) _ ns.onto in
      record {
        rule = record { kind = h.kind; nodes = ns.from };
        rest = rest.from;
        used = used + h.m;
        next = ns.mid;
        rest_read = got_is rest.read refl (same_place rest.onto);
        all = sym (same_thing rest.onto);
      }

  -- as many rules are read as are asked for
  pub rules_many : (v left used at : ℕ) (rs : List Rule) (after : ℕ) → more_rules file v left used at ≡ got rs after → length rs ≡ left
  unfolding more_rules
  rules_many v zero used at rs after e = ap length (sym (same_thing e))
  rules_many v (suc k) used at rs after e =
      let r = rule_read v k used at rs after e in
      ap length r.all ∙ ap suc (rules_many v k _ _ r.rest after r.rest_read)

  -- ---- a whole book

  pub book_version_refused : (r : Refusal) → field file first_version last_version 0 ≡ refused r → read_book file ≡ refused r
  unfolding book
  book_version_refused r e = rw e

  pub book_count_refused : (v count : ℕ) (r : Refusal) → field file first_version last_version 0 ≡ got v count
      → field file 1 rules count ≡ refused r → read_book file ≡ refused r
  unfolding book
  book_count_refused v count r e f = simp (e, f)

  -- the version and the rule count
  pub record BookHead (v count n first : ℕ) : Type 0 where
    pub version_read : field file first_version last_version 0 ≡ got v count
    pub count_read : field file 1 rules count ≡ got n first

  -- the rules and the end, past the head
  book_step : (v count n first : ℕ) → BookHead v count n first
      → read_book file
      ≡ onward (more_rules file v n 0 first) (λ (rs : List Rule) (next : ℕ).
      onward (end file next) (λ _ (after : ℕ). got (record { version = v; rules = rs }) after))
  unfolding book
  book_step v count n first h = simp (h.version_read, h.count_read)

  pub book_rules_refused : (v count n first : ℕ) (r : Refusal) → BookHead v count n first → summed v n 0 first ≡ refused r
      → read_book file ≡ refused r
  book_rules_refused v count n first r h e =
      rw (book_step v count n first h, refused_of total (more_rules file v n 0 first) e)

  pub book_tail : (v count n first sum after : ℕ) → BookHead v count n first → summed v n 0 first ≡ got sum after
      → after < length file → read_book file ≡ refused (Tail after)
  book_tail v count n first sum after h e more =
      rw (book_step v count n first h, (made_of total (more_rules file v n 0 first) e).read, lt-ltb _ _ more)

  pub book_got : (v count n first : ℕ) (rs : List Rule) (after : ℕ) → BookHead v count n first
      → more_rules file v n 0 first ≡ got rs after → length file ≤ after
      → read_book file ≡ got (record { version = v; rules = rs }) after
  book_got v count n first rs after h e end = rw (book_step v count n first h, e, le-ltb _ _ end)

  -- the counts of a book that is read whole
  pub book_counts : (v count n first sum after : ℕ) → BookHead v count n first → summed v n 0 first ≡ got sum after
      → length file ≤ after → size_of (read_book file) ≡ gives (record { rules = n; nodes = sum })
  book_counts v count n first sum after h e end =
      let made = made_of total (more_rules file v n 0 first) e in
      let whole = book_got v count n first made.from after h made.read end in
      rw (whole, rules_many v n 0 first made.from after made.read, made.makes)
