-- Laws of the work on the nodes that are left: its end, one step of it, and the whole of a rule.
-- A step's law takes the code's own values, each with what it is.
use Prim.Native.Nat.{ℕ, zero, suc, ◌+◌, ◌-◌, ◌<◌, ◌≤◌}
use native.Mathlib.Omega.{arith}
use Rattle.std.proofs.Math.Decide.{dec_lt, ℕ_discrete}
use Rattle.std.specs.Prelude.{◌≡◌, refl, List, [], ◌∷◌, ◌++◌, length, get_or, drop, set, replicate, Option, Some, None, Result, Ok, Err, IsOk, IsSome}
use Rattle.std.proofs.Common.{sym, ◌∙◌, length-set, get_or-drop, get_or-set_same, get_or-set_other}
use Rattle.std.proofs.Math.Path.{ap}
use Rattle.std.proofs.lemmas.List.{length-replicate, get_or-replicate}
use Rattle.number.specs.Limits.{nodes, work_cells, scratch}
use Rattle.number.specs.declared.Refusal.{Refusal}
use Rattle.number.specs.Refused.Answer.{got, refused}
use Rattle.number.specs.Numbers.{Bytes}
use Rattle.meaning.specs.Re.{Re}
use Rattle.meaning.specs.Limited.{◌>>=◌, normal_fit}
use Rattle.meaning.specs.Limited.Fit.{Long, Fits}
use Rattle.book.specs.declared.Node.{Node}
use Rattle.book.specs.declared.Node.TheVariants.{Nothing, Empty, Range, Cat, Alt, Star, Either, And, Not}
use Rattle.book.specs.declared.RulePlace.{RulePlace}
use Rattle.book.specs.Book.{takes, write_node, write_nodes, write_rules}
use Rattle.book.specs.Reads.{read_node}
use Rattle.book.specs.Valid.{Within, Leaves}
use Rattle.book.specs.Expression.{top as top_term}
use Rattle.book.specs.Places.{rule_of}
use Rattle.book.specs.Answers.{node_read, place_of, place_at}
use Rattle.book.specs.ReadLawsWritten.{nodes_written}
use Rattle.book.specs.ReadLawsPlaces.{RuleIn, node_step, rule_in_lem}
use Rattle.book.specs.PlaceLaws.{place_known}
use Rattle.term.specs.Cells.{term, Sound}
use Rattle.term.specs.Area.{pending, GrownFree, Room}
use Rattle.term.specs.Places.{terms_at}
use Rattle.term.specs.PlaceLaws.{terms_same, terms_last}
use Rattle.term.specs.CellLaws.{grown_refl, grown_term, makes_old}
use Rattle.term.specs.declared.Built.{Built}
use Rattle.normal.specs.AnswerLaws.{Got, long_is, made_term, made_after, long_after}
use Rattle.rule.specs.RunFit.{second, made, run_fit}
use Rattle.rule.specs.RunFitLaws.{Held, made_held, run_fit_lem}
use Rattle.rule.specs.Work.{Has, rule_in, rule_cells, RuleMade, Item, node_cells, Operands, NodeMade}
use Rattle.rule.specs.Work.{Standing, nodes_left, stack_of, rest_cells, Working, Worked}
use Rattle.rule.specs.NodeLaws.{node_few, node_cells_lem}

-- ---- the nodes that stand at a place

pub nodes_left_lem : (file : List ℕ) (v at left h : ℕ) (w : Standing file v at left h) → nodes_left file v at left h ≡ w.ns
nodes_left_lem file v at left h w = rw (← w.many, nodes_written file v w.ns h at w.rest w.leaves w.stands)

-- a node of a rule was read, which takes so many terms, and the rest stands behind it
pub record Step (file : List ℕ) (v at left h : ℕ) (n : Node) (next t : ℕ) : Type 0 where
  pub some : 0 < left
  pub many : t ≡ takes n
  pub enough : t ≤ h
  pub good : Within v n
  pub rest : Standing file v next (left - 1) (h - t + 1)
  pub nodes : nodes_left file v at left h ≡ n ∷ nodes_left file v next (left - 1) (h - t + 1)

-- the node that stands at the place, as read
record First (file : List ℕ) (v at left h : ℕ) : Type 0 where
  n : Node
  read : read_node file v at ≡ got n (at + length (write_node n))
  step : Step file v at left h n (at + length (write_node n)) (takes n)

first_node : (file : List ℕ) (v at left h : ℕ) → Standing file v at left h → 0 < left → First file v at left h
first_node file v at left h w some = go w.ns refl w.many w.leaves w.stands
  where
    go : (ns : List Node) → w.ns ≡ ns → length ns ≡ left → Leaves v h ns → drop at file ≡ write_nodes ns ++ w.rest → First file v at left h
    go [] e many leaves stands = absurd (omega arith)
    go (n ∷ ns) e many leaves stands =
        let there = node_step file v n ns at w.rest leaves.0 stands in
        let after : Standing file v (at + length (write_node n)) (left - 1) (h - takes n + 1) =
        record { ns = ns; many = omega arith; leaves = leaves.2; rest = w.rest; stands = there.1 } in
        record {
          n = n;
          read = there.0;
          step =
              record {
                some = some;
                many = refl;
                enough = leaves.1;
                good = leaves.0;
                rest = after;
                nodes = nodes_left_lem file v at left h w ∙ e ∙ ap (λ (x : List Node). n ∷ x) (sym (nodes_left_lem file v _ _ _ after));
              };
        }

pub step_read : (file : List ℕ) (v at left h : ℕ) (n : Node) (next t : ℕ) → Standing file v at left h → 0 < left
    → read_node file v at ≡ got n next → t ≡ takes n → Step file v at left h n next t
step_read file v at left h n next t w some e f =
    let x = first_node file v at left h w some in
    let told = x.read in
    let same : n ≡ x.n = cc in
    let place : next ≡ at + length (write_node x.n) = cc in
    rw (f, same, place) x.step

pub not_refused : (file : List ℕ) (v at left h : ℕ) (r : Refusal) → Standing file v at left h → 0 < left
    → read_node file v at ≡ refused r → ⊥
not_refused file v at left h r w some e =
    let x = first_node file v at left h w some in
    let told = x.read in
    let z : ◌≡◌ {A = ℕ} 0 1 = cc in
    omega arith

-- so the code's reading of it got a node
pub node_is_read : {file : List ℕ} {v at left h : ℕ} (t : Result (Node × ℕ) Refusal) → Standing file v at left h → 0 < left
    → node_read t ≡ read_node file v at → IsOk t
node_is_read (Ok (n, next)) w some e = refl
node_is_read (Err r) w some e = absurd (not_refused _ _ _ _ _ r w some (sym e))

-- ---- the stack

module _ (s st : List ℕ) where
  above_spare : (i : ℕ) → get_or (drop 2 st) i 0 ≡ get_or st (i + 2) 0
  above_spare i = let e : 2 + i ≡ i + 2 = omega arith in get_or-drop 2 st i 0 ∙ ap (λ (k : ℕ). get_or st k 0) e

  stack_last : (h : ℕ) → 1 ≤ h → stack_of s st h ≡ term s (get_or st (h + 1) 0) ∷ stack_of s st (h - 1)
  stack_last h l =
      let e : h - 1 + 2 ≡ h + 1 = omega arith in
      terms_last (term s) (drop 2 st) h l ∙ ap (λ (i : ℕ). term s i ∷ stack_of s st (h - 1)) (above_spare (h - 1) ∙ ap (λ (k : ℕ). get_or st k 0) e)

  stack_top : (h : ℕ) → 1 ≤ h → top_term (stack_of s st h) ≡ term s (get_or st (h + 1) 0)
  stack_top h l = ap top_term (stack_last h l)

  stack_second : (h : ℕ) → 2 ≤ h → second (stack_of s st h) ≡ term s (get_or st h 0)
  stack_second h l =
      let e : h - 1 + 1 ≡ h = omega arith in
      ap second (stack_last h (omega arith)) ∙ stack_top (h - 1) (omega arith) ∙ ap (λ (k : ℕ). term s (get_or st k 0)) e

  stack_drop : (t m h : ℕ) → m ≡ t + h → drop t (stack_of s st m) ≡ stack_of s st h
  unfolding terms_at
  stack_drop zero m h e = let same : m ≡ h = omega arith in rw same
  stack_drop (suc t) zero h e = absurd (omega arith)
  stack_drop (suc t) (suc m) h e = stack_drop t m h (omega arith)

-- a node looks only at the terms that it takes
made_same : (n : Node) {a b x y : Re} → (2 ≤ takes n → x ≡ a) → (1 ≤ takes n → y ≡ b) → made n x y ≡ made n a b
made_same Nothing p q = refl
made_same Empty p q = refl
made_same (Range lo hi) p q = refl
made_same Cat p q = rw (p (omega arith), q (omega arith))
made_same Alt p q = rw (p (omega arith), q (omega arith))
made_same Star p q = rw (q (omega arith))
made_same (Either x) p q = refl
made_same And p q = rw (p (omega arith), q (omega arith))
made_same Not p q = rw (q (omega arith))

-- an item is one after a growth
item_kept : {s s' : List ℕ} {top top' : ℕ} (i : ℕ) → Sound s top → GrownFree pending s top s' top' → Item s top i → Item s' top' i
item_kept {s} {s'} i ok g x =
    let same : term s' i ≡ term s i = grown_term i g ok x.low in
    record { low = omega (arith, x.low, g.up); in_shape = rw same x.in_shape; is_short = rw same x.is_short }

module _ {file : List ℕ} {v at left : ℕ} {s : List ℕ} {top : ℕ} {st : List ℕ} {h : ℕ} (w : Working file v at left s top st h) where
  -- ---- the end

  nothing_left : left ≡ 0 → (nodes_left file v at left h ≡ []) × (h ≡ 1)
  nothing_left z = go w.standing.ns (nodes_left_lem file v at left h w.standing) w.standing.many w.standing.leaves
    where
      go : (ns : List Node) → nodes_left file v at left h ≡ ns → length ns ≡ left → Leaves v h ns → (nodes_left file v at left h ≡ []) × (h ≡ 1)
      go [] e many leaves = (e, leaves)
      go (n ∷ ns) e many leaves = absurd (omega arith)

  pub work_ends : {b : ℕ} → left ≡ 0 → b ≡ get_or st (h + 1) 0 → Worked file v at left s top st h s (Some (record { root = b; top = top }))
  unfolding run_fit
  work_ends {b} z e =
      let (none, alone) = nothing_left z in
      let place : 0 + 2 ≡ h + 1 = omega arith in
      let item : Item s top b = rw (e, ← place) (w.items 0 (omega arith)) in
      let whole : run_fit (nodes_left file v at left h) (stack_of s st h) ≡ Fits (term s b) =
      rw (none, run_fit, stack_top s st h (omega arith), e) in
      made_term (record { root = b; top = top }) _ (rest_cells left h) (makes_old b 0 (term s b) w.sound item.low refl) whole (omega arith)

  -- ---- one node

  module _ {n : Node} {next t : ℕ} (k : Step file v at left h n next t) where
    pub step_asks : {a b : ℕ} → a ≡ get_or st h 0 → b ≡ get_or st (h + 1) 0 → Operands n s top a b
    step_asks {a} {b} p q =
        record {
          sound = w.sound;
          room = omega (arith, w.room);
          version = v;
          good = k.good;
          below = λ l.
              let place : h - 2 + 2 ≡ h = omega (arith, k.many, k.enough) in
              rw (p, ← place) (w.items (h - 2) (omega (arith, k.many, k.enough)));
          first = λ l.
              let place : h - 1 + 2 ≡ h + 1 = omega (arith, k.many, k.enough) in
              rw (q, ← place) (w.items (h - 1) (omega (arith, k.many, k.enough)));
        }

    run_step : {a b : ℕ} → a ≡ get_or st h 0 → b ≡ get_or st (h + 1) 0
        → run_fit (nodes_left file v at left h) (stack_of s st h)
        ≡ (made n (term s a) (term s b) >>= λ r. run_fit (nodes_left file v next (left - 1) (h - t + 1)) (r ∷ drop t (stack_of s st h)))
    unfolding run_fit
    run_step {a} {b} p q =
        let same : made n (second (stack_of s st h)) (top_term (stack_of s st h)) ≡ made n (term s a) (term s b) =
        made_same n
        (λ l. stack_second s st h (omega (arith, k.many, k.enough)) ∙ ap (term s) (sym p))
        (λ l. stack_top s st h (omega (arith, k.many, k.enough)) ∙ ap (term s) (sym q)) in
        rw (k.nodes, run_fit, same, k.many)

    module _ {a b : ℕ} (p : a ≡ get_or st h 0) (q : b ≡ get_or st (h + 1) 0) where
      -- a result that is too long ends the work
      pub step_long : {s1 : List ℕ} {m : Option Built} → NodeMade n s top a b s1 m → m ≡ None → Worked file v at left s top st h s1 None
      step_long made e =
          let none : run_fit (nodes_left file v at left h) (stack_of s st h) ≡ Long = rw (run_step p q, long_is made e) in
          long_after 0 (rest_cells left h) _ (grown_refl w.sound) (omega arith) made e none (omega (arith, node_few (step_asks p q)))

      -- a result that fits goes on the stack
      module _ {s1 : List ℕ} {root above : ℕ}
          (x : Got s top s1 root above (made n (term s a) (term s b)) (node_cells n (term s a) (term s b))) where
        result_held : Held x.value
        result_held =
            let o = step_asks p q in
            made_held n (term s a) (term s b) x.value (λ l. (o.below l).in_shape) (λ l. (o.first l).in_shape) x.fits

        few : node_cells n (term s a) (term s b) + rest_cells (left - 1) (h - t + 1) ≤ rest_cells left h
        few = omega (arith, node_cells_lem x.value (step_asks p q) x.fits, k.some, k.many, k.enough)

        new_item : Item s1 above root
        new_item =
            let same = x.makes.is in
            record { low = x.makes.within; in_shape = rw same result_held.in_shape; is_short = rw same result_held.is_short }

        stacked_at : (i : ℕ) → i < h - t → get_or (set st (h - t + 2) root) (i + 2) 0 ≡ get_or st (i + 2) 0
        stacked_at i l = get_or-set_other st (h - t + 2) (i + 2) root 0 (λ e. omega arith)

        stacked_here : get_or (set st (h - t + 2) root) (h - t + 2) 0 ≡ root
        stacked_here = get_or-set_same st (h - t + 2) root 0 (omega (arith, w.places, w.whole, k.some, k.enough))

        pub root_small : root < work_cells
        root_small = omega (arith, x.makes.within, x.makes.grown.sound.room, x.makes.grown.sound.small)

        pub step_on : Working file v next (left - 1) s1 above (set st (h - t + 2) root) (h - t + 1)
        step_on =
            record {
              standing = k.rest;
              sound = x.makes.grown.sound;
              room = omega (arith, few, w.room, x.makes.few, x.makes.grown.same_length);
              places = omega (arith, w.places, k.some, k.enough);
              whole = length-set st (h - t + 2) root ∙ w.whole;
              small = λ i l.
                  elim (ℕ_discrete i (h - t + 2)) [
                    | yes e ↦ rw (e, stacked_here) root_small
                    | no e ↦ rw (get_or-set_other st (h - t + 2) i root 0 e) (w.small i l)
                  ];
              items = λ i l.
                  elim (dec_lt i (h - t)) [
                    | yes m ↦ rw (stacked_at i m) (item_kept _ w.sound x.makes.grown (w.items i (omega arith)))
                    | no m ↦ let same : i ≡ h - t = omega arith in rw (same, stacked_here) new_item
                  ];
            }

        stack_next : stack_of s1 (set st (h - t + 2) root) (h - t + 1) ≡ x.value ∷ drop t (stack_of s st h)
        stack_next =
            let onto : List ℕ = set st (h - t + 2) root in
            let one : h - t + 1 + 1 ≡ h - t + 2 = omega arith in
            let same : h - t + 1 - 1 ≡ h - t = omega arith in
            let below = stack_drop s st t h (h - t) (omega (arith, k.enough)) in
            let others = terms_same (term s) (term s1) (drop 2 st) (drop 2 onto) (h - t)
            (λ i l. ap (term s1) (above_spare s1 onto i ∙ stacked_at i l ∙ sym (above_spare s st i))
            ∙ grown_term _ x.makes.grown w.sound (rw (above_spare s st i) (w.items i (omega arith)).low)) in
            stack_last s1 onto (h - t + 1) (omega arith) ∙ rw (one, same, stacked_here, x.makes.is, others, below)

        pub step_made : {s2 : List ℕ} {r : Option Built} → Worked file v next (left - 1) s1 above (set st (h - t + 2) root) (h - t + 1) s2 r
            → Worked file v at left s top st h s2 r
        step_made m =
            made_after (node_cells n (term s a) (term s b)) (rest_cells left h) _ x.makes.grown x.makes.few m
            (sym (run_step p q ∙ rw (x.fits, stack_next))) few

-- ---- a whole rule

-- it has a place
pub rule_is_placed : {file : List ℕ} {rule : ℕ} (t : Option RulePlace) → Has file rule → t ≡ place_of file rule → IsSome t
rule_is_placed {file} {rule} t has e = rw (e, place_known file has.book has.after rule has.read has.within) refl

module _ (file : List ℕ) (rule : ℕ) (has : Has file rule) (all : Bytes file) (p : RulePlace) (e : Some p ≡ place_of file rule) where
  placed : p ≡ place_at has.book rule
  placed = cc (e, place_known file has.book has.after rule has.read has.within)

  there : RuleIn file has.book rule
  there = rule_in_lem file has.book has.after rule all has.read has.within

  rule_stands : Standing file p.version p.at p.nodes 0
  rule_stands =
      record {
        ns = (rule_of has.book rule).nodes;
        many = rw placed;
        leaves = rw placed there.valid.leaves;
        rest = write_rules (drop (rule + 1) has.book.rules);
        stands = rw placed there.nodes_stand;
      }

  rule_few : p.nodes ≤ nodes
  rule_few = rw placed there.small

  pub rule_works : {s : List ℕ} {top : ℕ} → Sound s top → Room s top scratch → Working file p.version p.at p.nodes s top (replicate (nodes + 2) 0) 0
  rule_works ok room =
      record {
        standing = rule_stands;
        sound = ok;
        room = omega (arith, rule_few);
        places = omega (arith, rule_few);
        whole = length-replicate {A = ℕ} (nodes + 2) 0;
        small = λ i l. rw (get_or-replicate {A = ℕ} (nodes + 2) i 0 0 l) (omega arith);
        items = λ i l. absurd (omega arith);
      }

  rule_normal : (s st : List ℕ) → run_fit (nodes_left file p.version p.at p.nodes 0) (stack_of s st 0) ≡ normal_fit (rule_in file rule)
  unfolding terms_at rule_stands
  rule_normal s st =
      let same : nodes_left file p.version p.at p.nodes 0 ≡ (rule_of has.book rule).nodes = nodes_left_lem file p.version p.at p.nodes 0 rule_stands in
      rw (same, has.read) (run_fit_lem has.book.version (rule_of has.book rule) there.valid)

  pub rule_made : {s : List ℕ} {top : ℕ} → Sound s top → {s' : List ℕ} {r : Option Built}
      → Worked file p.version p.at p.nodes s top (replicate (nodes + 2) 0) 0 s' r → RuleMade file rule s top s' r
  rule_made {s} ok m = made_after 0 rule_cells _ (grown_refl ok) (omega arith) m (rule_normal s (replicate (nodes + 2) 0)) (omega (arith, rule_few))
