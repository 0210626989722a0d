-- A build's walk follows the states: its items are the vectors that texts lead to, in the order of their first texts.
-- So a build has the limits that texts tell of states, and a table that is built has just these states.
use Rattle.std.specs.Prelude.{ℕ, suc, ◌<◌, ◌≤◌, ◌≡◌, refl, List, [], ◌∷◌}
use Rattle.std.proofs.Common.{sym, ◌∙◌, arith}
use Rattle.std.proofs.Math.Decide.{dec_lt}
use Rattle.number.specs.Numbers.{Bytes}
use Rattle.number.specs.Refused.{row_of}
use Rattle.number.specs.Refused.Outcome.{gives}
use Rattle.meaning.specs.Re.{Re, Text}
use Rattle.meaning.specs.Words.{reach}
use Rattle.table.specs.Table.{Table}
use Rattle.walk.specs.Walk.{Held, walk_from}
use Rattle.walk.specs.Walk.Walked.{walked}
use Rattle.walk.specs.StepLaws.{item, count}
use Rattle.walk.specs.WalkLaws.{Good, target}
use Rattle.walk.specs.Explored.{walk_explores, Arrived, arrived}
use Rattle.walk.specs.Passing.{vector_after, Firsts, Limits}
use Rattle.walk.specs.FollowLaws.{Counts, Earlier, Follows, listed, earlier, items_apart, walk_limits}
use Rattle.built.specs.Build.{alone, table_of, built_of, build_rules}
use Rattle.built.specs.BuildLaws.{built}
use Rattle.built.specs.States.{held_states, HasStates}

-- the one state beside which a build walks
beside_one : (w : Text) → reach alone.go 0 w ≡ 0
beside_one [] = refl
beside_one (c ∷ w) = beside_one w

module _ (rs : List Re) where
  counts : Counts alone (held_states rs)
  counts = record {
    from_few = omega arith;
    one_goal = λ v w l m s e. e;
    one_sheet = λ v w l m e. beside_one v ∙ sym (beside_one w);
    one_vector = λ v w e. e;
    entry = λ w l. absurd (omega arith);
  }

  states_apart : (h : Held) → Good alone rs h → (j k : ℕ) → j < k → k < count h → vector_after rs (item h j).text ≡ vector_after rs (item h k).text → ⊥
  states_apart h g j k = items_apart alone (held_states rs) counts h (listed alone rs h g) j k (omega arith)

  first_texts : (h : Held) → Good alone rs h → Earlier alone rs h → (n : ℕ) → n ≤ count h → Firsts (vector_after rs) (λ k. (item h k).text) n
  first_texts h g e n l = record {
    is_text = λ k m. (g.led k (omega arith)).text_is;
    apart = λ j k m o. states_apart h g j k m (omega arith);
    first = λ k m v b s.
        let (j, o, a) = e k (omega arith) v b s in
        (j, o, sym a.vector_is ∙ (g.led j a.inside).vector_is);
  }

  follows : Follows alone (held_states rs)
  follows = record {
    counts = counts;
    some = omega arith;
    limit_is = refl;
    terms_is = refl;
    full_is = λ place. refl;
    own_row = (λ e. omega arith, λ e. omega arith);
    numbered = λ h g e i l. record { text = λ k. (item h k).text; firsts = first_texts h g e (suc i) l; is = refl };
  }

  pub build_limits : Limits (held_states rs) (row_of (build_rules rs))
  unfolding build_rules
  build_limits = walk_limits alone (held_states rs) follows (λ w. row_of (built_of w)) (λ r. refl) (λ h js. refl)

  -- ---- a table

  module _ (h : Held) (js : List ℕ) (e : walk_from alone rs ≡ walked h js) where
    abbrev good : Good alone rs h
    good = (walk_explores alone rs h js e).good

    abbrev arrives : (w : Text) → Bytes w → Arrived alone rs h w (reach (target js) 0 w)
    arrives = arrived alone rs h js (walk_explores alone rs h js e)

    one_state : (n m : ℕ) → n < count h → m < count h → vector_after rs (item h m).text ≡ vector_after rs (item h n).text → m ≡ n
    one_state n m l o d =
        elim (dec_lt m n) [
          | yes p ↦ absurd (states_apart h good m n p l d)
          | no f ↦ elim (dec_lt n m) [ yes p ↦ absurd (states_apart h good n m p o (sym d)) | no g ↦ omega arith ]
        ]

    -- a text leads to the vector of the state that it arrives at
    arrives_vector : (w : Text) → Bytes w → vector_after rs w ≡ vector_after rs (item h (reach (target js) 0 w)).text
    arrives_vector w b = let a = arrives w b in sym a.vector_is ∙ (good.led (reach (target js) 0 w) a.inside).vector_is

    walk_states : HasStates rs (table_of h js)
    walk_states = record {
      text = λ n. (item h n).text;
      firsts = first_texts h good (earlier alone rs h good (λ k l w b s. (reach (target js) 0 w, arrives w b))) (count h) (omega arith);
      leads = λ n l.
          let b = (good.led n l).text_is in
          one_state n (reach (target js) 0 (item h n).text) l (arrives (item h n).text b).inside (sym (arrives_vector (item h n).text b));
      every = λ w b. ((arrives w b).inside, arrives_vector w b);
    }

  pub build_states : (t : Table) → build_rules rs ≡ gives t → HasStates rs t
  build_states t e = let m = built rs t e in rw m.table_is (walk_states m.held m.numbers m.walks)
