-- Laws of the limits as Passing tells them: a goal has one number, and of two texts that pass a limit one is first, where one limit is the first passed.
-- So texts alone fix the row of an answer and its place.
use Rattle.std.specs.Prelude.{ℕ, zero, suc, ◌<◌, ◌≤◌, ◌≡◌, refl, [], ◌∷◌, ◌++◌, ◌⊎◌}
use Rattle.std.proofs.Common.{sym, ap, subst, ◌∙◌, inl, inr, arith}
use Rattle.number.specs.Numbers.{Bytes}
use Rattle.number.specs.Refused.{Row}
use Rattle.number.specs.Refused.Row.{no_row, row}
use Rattle.meaning.specs.Re.{Text}
use Rattle.walk.specs.CountLaws.{at_most_by}
use Rattle.walk.specs.Texts.{Sooner, NotLater}
use Rattle.walk.specs.Texts.Sooner.{shorter}
use Rattle.walk.specs.Texts.NotLater.{equal, sooner}
use Rattle.walk.specs.TextLaws.{length_snoc, snoc_some, snoc_front, not_later_or}
use Rattle.walk.specs.Passing.{Firsts, NumberOf, Leaving, LongAt, Crowded, Holding, GoalsTo, Unpassed, FirstPast, WithinLimits, Limits}
use Rattle.walk.specs.Passing.Leaving.{nothing, goal_of}

-- ---- numbers

module _ {A : Type 0} (goal : Text → A) where
  firsts_rise : (text : ℕ → Text) (n : ℕ) → Firsts goal text n → (j k : ℕ) → j < k → k < n → Sooner (text j) (text k)
  firsts_rise text n p j k l m = elim (not_later_or (text k) (text j)) [ inl a ↦ absurd (go a) | inr s ↦ s ]
    where
      go : NotLater (text k) (text j) → ⊥
      go (equal e) = p.apart j k l m (ap goal (sym e))
      go (sooner s) = let (i, o, q) = p.first j (omega arith) (text k) (p.is_text k m) s in p.apart i k (omega arith) m (sym q)

  -- first texts are fixed: one that is sooner would lead to an earlier goal
  pub firsts_one : (t u : ℕ → Text) (n : ℕ) → Firsts goal t n → Firsts goal u n → (k : ℕ) → k < n → t k ≡ u k
  firsts_one t u n p q k l = below (suc k) l k (omega arith)
    where
      same : (j : ℕ) → j < n → ((i : ℕ) → i < j → t i ≡ u i) → t j ≡ u j
      same j h ih = elim (not_later_or (t j) (u j)) [ inl a ↦ go a | inr s ↦ absurd (let (i, o, e) = p.first j h (u j) (q.is_text j h) s in q.apart i j o h (ap goal (sym (ih i o)) ∙ sym e)) ]
        where
          go : NotLater (t j) (u j) → t j ≡ u j
          go (equal e) = e
          go (sooner s) = absurd (let (i, o, e) = q.first j h (t j) (p.is_text j h) s in p.apart i j o h (ap goal (ih i o) ∙ sym e))

      below : (m : ℕ) → m ≤ n → (j : ℕ) → j < m → t j ≡ u j
      below zero h j o = absurd (omega arith)
      below (suc m) h j o = same j (omega arith) (λ i r. below m (omega arith) i (omega arith))

  -- the first text of the one is not sooner than that of the other
  not_sooner : {w : Text} (m n : ℕ) (p : NumberOf goal w m) (q : NumberOf goal w n) → Sooner (q.text n) (p.text m) → ⊥
  not_sooner m n p q s =
      let (k, l, o) = p.firsts.first m (omega arith) (q.text n) (q.firsts.is_text n (omega arith)) s in
      p.firsts.apart k m l (omega arith) (sym o ∙ sym q.is ∙ p.is)

  one_text : {w : Text} (m n : ℕ) (p : NumberOf goal w m) (q : NumberOf goal w n) → p.text m ≡ q.text n
  one_text m n p q = elim (not_later_or (p.text m) (q.text n)) [ inl a ↦ go a | inr s ↦ absurd (not_sooner m n p q s) ]
    where
      go : NotLater (p.text m) (q.text n) → p.text m ≡ q.text n
      go (equal e) = e
      go (sooner s) = absurd (not_sooner n m q p s)

  -- each goal before the one is a goal before the other
  no_more : {w : Text} (m n : ℕ) → NumberOf goal w m → NumberOf goal w n → m ≤ n
  no_more m n p q =
      at_most_by m n (λ k j. goal (p.text k) ≡ goal (q.text j))
      (λ k l.
      let s = firsts_rise p.text (suc m) p.firsts k m l (omega arith) in
      q.firsts.first n (omega arith) (p.text k) (p.firsts.is_text k (omega arith)) (subst (Sooner (p.text k)) (one_text m n p q) s))
      (λ i k l o j a b. p.firsts.apart i k l (omega arith) (a ∙ sym b))

  pub number_one : (w : Text) (m n : ℕ) → NumberOf goal w m → NumberOf goal w n → m ≡ n
  number_one w m n p q = omega (arith, no_more m n p q, no_more n m q p)

  leaving_one : {u v : Text} {m n : ℕ} → u ≡ v → Leaving goal u m → Leaving goal v n → m ≡ n
  leaving_one e (nothing f a) (nothing g b) = a ∙ sym b
  leaving_one e (nothing f a) (goal_of w c g p) = absurd (snoc_some w c (sym g ∙ sym e ∙ f))
  leaving_one e (goal_of w c f p) (nothing g b) = absurd (snoc_some w c (sym f ∙ e ∙ g))
  leaving_one {m = m} {n = n} e (goal_of w c f p) (goal_of v d g q) =
      number_one w m n p (subst (λ (u : Text). NumberOf goal u n) (snoc_front v w d c (sym g ∙ sym e ∙ f)) q)

-- ---- rows

row_number : {m n p q : ℕ} → row m p ≡ row n q → m ≡ n
row_number e = cc

row_place : {m n p q : ℕ} → row m p ≡ row n q → p ≡ q
row_place e = cc

pub no_row_lem : {n p : ℕ} → no_row ≡ row n p → ⊥
no_row_lem e = let z : ◌≡◌ {A = ℕ} 0 1 = cc in omega arith

-- ---- limits

module _ {A : Type 0} (x : Holding A) where
  -- a limit is passed at a text, in the order of the tests, with the row of its refusal
  pub data Passed (last : Text) : ℕ → Type 0 where
    passed_long : LongAt x.rules last → Passed last 6
    passed_goals : (LongAt x.rules last → ⊥) → GoalsTo x last (suc x.most) → Passed last x.full
    passed_pool : (LongAt x.rules last → ⊥) → ((n : ℕ) → GoalsTo x last n → n ≤ x.most) → Crowded x.rules last → Passed last 7

  -- what is met where a walk declines, by row and place
  pub record Declined (n place : ℕ) : Type 0 where
    pub last : Text
    pub first : FirstPast x last place
    pub passed : Passed last n

  passes : {last v : Text} {n : ℕ} → Bytes v → Sooner v last → Unpassed x last → Passed v n → ⊥
  passes {v = v} b s u (passed_long l) = u.none_long v b s l
  passes {v = v} b s u (passed_goals f m) = omega (arith, u.goals_few v (suc x.most) s m)
  passes {v = v} b s u (passed_pool f g (terms, m, l)) = omega (arith, u.terms_few v terms s m)

  not_both : {n p : ℕ} → Declined n p → WithinLimits x → ⊥
  not_both d w = passes d.first.is_text (later d.last) (w (d.last ++ (0 ∷ []))) d.passed
    where
      later : (u : Text) → Sooner u (u ++ (0 ∷ []))
      later u = shorter (omega (arith, length_snoc u 0))

  -- at one text one limit is passed first
  passed_one : {last : Text} {m n : ℕ} → Passed last m → Passed last n → m ≡ n
  passed_one (passed_long l) (passed_long k) = refl
  passed_one (passed_long l) (passed_goals f y) = absurd (f l)
  passed_one (passed_long l) (passed_pool f g y) = absurd (f l)
  passed_one (passed_goals f y) (passed_long l) = absurd (f l)
  passed_one (passed_goals f y) (passed_goals g z) = refl
  passed_one (passed_goals f y) (passed_pool g h z) = absurd (let l = h (suc x.most) y in omega arith)
  passed_one (passed_pool f g y) (passed_long l) = absurd (f l)
  passed_one (passed_pool f g y) (passed_goals h z) = absurd (let l = g (suc x.most) z in omega arith)
  passed_one (passed_pool f g y) (passed_pool h i z) = refl

  declined_one : {m n p q : ℕ} → Declined m p → Declined n q → row m p ≡ row n q
  declined_one {m} {n} {p} {q} a b =
      elim (not_later_or a.last b.last) [ inl l ↦ go l | inr s ↦ absurd (passes b.first.is_text s a.first.before b.passed) ]
    where
      go : NotLater a.last b.last → row m p ≡ row n q
      go (sooner s) = absurd (passes a.first.is_text s b.first.before a.passed)
      go (equal e) =
          let d : m ≡ n = passed_one a.passed (subst (λ (u : Text). Passed u n) (sym e) b.passed) in
          let f : p ≡ q = leaving_one x.goal e a.first.leaving b.first.leaving in
          ap (λ (k : ℕ). row k p) d ∙ ap (row n) f

  -- ---- row by row

  abbrev LongFirst : ℕ → Type 0
  LongFirst place = (last : Text) × FirstPast x last place × LongAt x.rules last

  abbrev GoalsFirst : ℕ → Type 0
  GoalsFirst place = (last : Text) × FirstPast x last place × (LongAt x.rules last → ⊥) × GoalsTo x last (suc x.most)

  abbrev PoolFirst : ℕ → Type 0
  PoolFirst place =
      (last : Text) × FirstPast x last place × (LongAt x.rules last → ⊥) × ((n : ℕ) → GoalsTo x last n → n ≤ x.most) × Crowded x.rules last

  long_met : (place : ℕ) → LongFirst place → Declined 6 place
  long_met place (last, f, l) = record { last = last; first = f; passed = passed_long l }

  goals_met : (place : ℕ) → GoalsFirst place → Declined x.full place
  goals_met place (last, f, n, m) = record { last = last; first = f; passed = passed_goals n m }

  pool_met : (place : ℕ) → PoolFirst place → Declined 7 place
  pool_met place (last, f, n, m, l) = record { last = last; first = f; passed = passed_pool n m l }

  -- the row of one goal more is its own
  module _ (own : (x.full ≡ 6 → ⊥) × (x.full ≡ 7 → ⊥)) where
    module _ (last : Text) (p : ℕ) (f : FirstPast x last p) where
      moved_to : (q : ℕ) → p ≡ q → FirstPast x last q
      moved_to q e = subst (FirstPast x last) e f

      long_by : {n : ℕ} (q : ℕ) → Passed last n → row n p ≡ row 6 q → LongFirst q
      long_by q (passed_long l) e = (last, moved_to q (row_place e), l)
      long_by q (passed_goals n m) e = absurd (own.0 (row_number e))
      long_by q (passed_pool n m l) e = absurd (let z = row_number e in omega arith)

      goals_by : {n : ℕ} (q : ℕ) → Passed last n → row n p ≡ row x.full q → GoalsFirst q
      goals_by q (passed_long l) e = absurd (own.0 (sym (row_number e)))
      goals_by q (passed_goals n m) e = (last, moved_to q (row_place e), n, m)
      goals_by q (passed_pool n m l) e = absurd (own.1 (sym (row_number e)))

      pool_by : {n : ℕ} (q : ℕ) → Passed last n → row n p ≡ row 7 q → PoolFirst q
      pool_by q (passed_long l) e = absurd (let z = row_number e in omega arith)
      pool_by q (passed_goals n m) e = absurd (own.1 (row_number e))
      pool_by q (passed_pool n m l) e = (last, moved_to q (row_place e), n, m, l)

      one_of : {m : ℕ} (n q : ℕ) → Passed last m → row m p ≡ row n q → (n ≡ 6) ⊎ ((n ≡ x.full) ⊎ (n ≡ 7))
      one_of n q (passed_long l) e = inl (sym (row_number e))
      one_of n q (passed_goals m y) e = inr (inl (sym (row_number e)))
      one_of n q (passed_pool m y l) e = inr (inr (sym (row_number e)))

    pub limits_refused : {n p : ℕ} → Declined n p → Limits x (row n p)
    limits_refused {n} {p} d = record {
      long = λ q. (long_by d.last p d.first q d.passed, λ y. declined_one d (long_met q y));
      goals_full = λ q. (goals_by d.last p d.first q d.passed, λ y. declined_one d (goals_met q y));
      pool_full = λ q. (pool_by d.last p d.first q d.passed, λ y. declined_one d (pool_met q y));
      no_other = λ m q e. one_of d.last p d.first m q d.passed e;
      none = (λ e. absurd (no_row_lem (sym e)), λ w. absurd (not_both d w));
    }

  pub limits_answered : WithinLimits x → Limits x no_row
  limits_answered w = record {
    long = λ q. (λ e. absurd (no_row_lem e), λ y. absurd (not_both (long_met q y) w));
    goals_full = λ q. (λ e. absurd (no_row_lem e), λ y. absurd (not_both (goals_met q y) w));
    pool_full = λ q. (λ e. absurd (no_row_lem e), λ y. absurd (not_both (pool_met q y) w));
    no_other = λ n q e. absurd (no_row_lem e);
    none = (λ e. w, λ y. refl);
  }

  -- no two answers have these limits
  pub limits_one : (a b : Row) → Limits x a → Limits x b → a ≡ b
  limits_one no_row b p q = sym (q.none.1 (p.none.0 refl))
  limits_one (row n place) b p q = go (p.no_other n place refl)
    where
      row_at : (m : ℕ) → n ≡ m → row n place ≡ row m place
      row_at m e = ap (λ (k : ℕ). row k place) e

      go : (n ≡ 6) ⊎ ((n ≡ x.full) ⊎ (n ≡ 7)) → row n place ≡ b
      go (inl e) = row_at 6 e ∙ sym ((q.long place).1 ((p.long place).0 (row_at 6 e)))
      go (inr (inl e)) = row_at x.full e ∙ sym ((q.goals_full place).1 ((p.goals_full place).0 (row_at x.full e)))
      go (inr (inr e)) = row_at 7 e ∙ sym ((q.pool_full place).1 ((p.pool_full place).0 (row_at 7 e)))
