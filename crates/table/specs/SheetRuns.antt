-- A row and its runs: runs_of gives proper runs that stand for the row, and no other proper runs do.
-- So a sheet that is read has just the runs that would be written, and a writer may go from run to run.
use Rattle.std.specs.Prelude.{ℕ, zero, suc, ◌+◌, ◌≤◌, ◌<◌, ◌≡◌, refl, List, [], ◌∷◌, ◌++◌, ◌↔◌, eqb, length, get_or, replicate}
use Rattle.std.proofs.Common.{arith, sym, ap, ◌∙◌, eq-eqb, ne_eqb, eqb-true, length-append}
use Rattle.std.proofs.lemmas.Bool.{eqb-false}
use Rattle.std.proofs.lemmas.List.{length-replicate}
use Rattle.number.specs.Branch.{by_cond}
use Rattle.table.specs.Sheet.{Run, joined, runs_of}
use Rattle.table.specs.SheetFormed.{Each, each_none, each_tail, each_append, each_replicate}
use Rattle.table.specs.Formed.{expanded, covered, TurnsFrom, Proper, Below, Ends}

-- ---- one byte more in front

joined_same : (t : ℕ) (r : Run) (rs : List Run) → t ≡ r.target
    → joined t (r ∷ rs) ≡ record { len = suc r.len; target = t } ∷ rs
unfolding joined
joined_same t r rs e = simp (eq-eqb _ _ e)

joined_other : (t : ℕ) (r : Run) (rs : List Run) → (t ≡ r.target → ⊥)
    → joined t (r ∷ rs) ≡ record { len = 1; target = t } ∷ r ∷ rs
unfolding joined
joined_other t r rs n = simp (ne_eqb _ _ n)

joined_expanded : (t : ℕ) (rs : List Run) → expanded (joined t rs) ≡ t ∷ expanded rs
unfolding joined expanded
joined_expanded t [] = refl
joined_expanded t (r ∷ rs) =
    by_cond (λ (qs : List Run). expanded qs ≡ t ∷ expanded (r ∷ rs)) (eqb t r.target)
    (λ h. rw (eqb-true t r.target h))
    (λ h. refl)

joined_proper : (t : ℕ) (rs : List Run) → Proper rs → Proper (joined t rs)
unfolding joined
joined_proper t [] p = (omega arith, tt, tt)
joined_proper t (r ∷ rs) p =
    by_cond Proper (eqb t r.target)
    (λ h. (omega arith, rw (eqb-true t r.target h) p.1, p.2))
    (λ h. (omega arith, λ e. eqb-false _ _ h (sym e), p))

joined_count : (t : ℕ) (rs : List Run) → length (joined t rs) ≤ suc (length rs)
unfolding joined
joined_count t [] = omega arith
joined_count t (r ∷ rs) =
    by_cond (λ (qs : List Run). length qs ≤ suc (length (r ∷ rs))) (eqb t r.target)
    (λ h. omega arith)
    (λ h. omega arith)

-- ---- the runs of a row

-- they stand for the row
pub runs_expanded : (row : List ℕ) → expanded (runs_of row) ≡ row
unfolding runs_of expanded
runs_expanded [] = refl
runs_expanded (t ∷ ts) = joined_expanded t (runs_of ts) ∙ ap (λ (r : List ℕ). t ∷ r) (runs_expanded ts)

-- each covers a byte or more, and neighbours differ
pub runs_proper : (row : List ℕ) → Proper (runs_of row)
unfolding runs_of
runs_proper [] = tt
runs_proper (t ∷ ts) = joined_proper t (runs_of ts) (runs_proper ts)

-- they are no more than the row's bytes
pub runs_count : (row : List ℕ) → length (runs_of row) ≤ length row
unfolding runs_of
runs_count [] = omega arith
runs_count (t ∷ ts) = omega (arith, joined_count t (runs_of ts), runs_count ts)

-- the bytes that runs cover are those of the row that they stand for
pub covered_expanded : (rs : List Run) → length (expanded rs) ≡ covered rs
unfolding expanded covered
covered_expanded [] = refl
covered_expanded (r ∷ rs) =
    length-append (replicate r.len r.target) (expanded rs)
    ∙ ap (λ (n : ℕ). n + length (expanded rs)) (length-replicate r.len r.target)
    ∙ ap (λ (n : ℕ). r.len + n) (covered_expanded rs)

pub runs_covered : (row : List ℕ) → covered (runs_of row) ≡ length row
runs_covered row = sym (covered_expanded (runs_of row)) ∙ ap length (runs_expanded row)

-- ---- targets of runs

joined_below : (s t : ℕ) (rs : List Run) → t < s → Below s rs → Below s (joined t rs)
unfolding joined
joined_below s t [] h b = (h, tt)
joined_below s t (r ∷ rs) h b = by_cond (Below s) (eqb t r.target) (λ e. (h, b.1)) (λ e. (h, b))

pub runs_below : (s : ℕ) (row : List ℕ) → Each (λ t. t < s) row → Below s (runs_of row)
unfolding runs_of
runs_below s [] h = tt
runs_below s (t ∷ ts) h = joined_below s t (runs_of ts) (h 0 (omega arith)) (runs_below s ts (each_tail (λ x. x < s) t ts h))

pub below_expanded : (s : ℕ) (rs : List Run) → Below s rs → Each (λ t. t < s) (expanded rs)
unfolding expanded
below_expanded s [] b = each_none (λ t. t < s)
below_expanded s (r ∷ rs) b =
    each_append (λ t. t < s) (replicate r.len r.target) (expanded rs)
    (each_replicate (λ t. t < s) r.len r.target b.0) (below_expanded s rs b.1)

-- s is the target of no run
pub below_turns : (s : ℕ) (rs : List Run) → Below s rs → TurnsFrom s rs
below_turns s [] b = tt
below_turns s (r ∷ rs) b = λ e. omega (arith, b.0)

-- ---- run by run

-- a byte in front of runs that it does not join
joined_new : (t : ℕ) (rs : List Run) → TurnsFrom t rs → joined t rs ≡ record { len = 1; target = t } ∷ rs
unfolding joined
joined_new t [] n = refl
joined_new t (r ∷ rs) n = joined_other t r rs (λ e. n (sym e))

-- runs of a row that does not begin with t do not begin with t
joined_turns : (t x : ℕ) (rs : List Run) → (x ≡ t → ⊥) → TurnsFrom t (joined x rs)
unfolding joined
joined_turns t x [] n = n
joined_turns t x (r ∷ rs) n = by_cond (TurnsFrom t) (eqb x r.target) (λ h. n) (λ h. n)

runs_turn : (t : ℕ) (row : List ℕ) → Ends t row → TurnsFrom t (runs_of row)
unfolding runs_of
runs_turn t [] n = tt
runs_turn t (x ∷ xs) n = joined_turns t x (runs_of xs) (n (omega arith))

-- the first run of a row goes as far as the row has its target
pub runs_first : (n t : ℕ) (rest : List ℕ) → Ends t rest
    → runs_of (replicate (suc n) t ++ rest) ≡ record { len = suc n; target = t } ∷ runs_of rest
unfolding runs_of
runs_first zero t rest ends = joined_new t (runs_of rest) (runs_turn t rest ends)
runs_first (suc n) t rest ends =
    ap (joined t) (runs_first n t rest ends) ∙ joined_same t (record { len = suc n; target = t }) (runs_of rest) refl

-- the same where the length is known to be 1 at least
pub runs_from_lem : (n t : ℕ) (rest : List ℕ) → 1 ≤ n → Ends t rest
    → runs_of (replicate n t ++ rest) ≡ record { len = n; target = t } ∷ runs_of rest
runs_from_lem zero t rest h ends = absurd (omega arith)
runs_from_lem (suc n) t rest h ends = runs_first n t rest ends

-- ---- no other runs

-- the row of proper runs begins with the first run's target
expanded_ends : (t : ℕ) (rs : List Run) → Proper rs → TurnsFrom t rs → Ends t (expanded rs)
unfolding expanded
expanded_ends t [] p n = λ h. absurd (omega arith)
expanded_ends t (r ∷ rs) p n = λ _. go r.len p.0
  where
    go : (k : ℕ) → 1 ≤ k → get_or (replicate k r.target ++ expanded rs) 0 0 ≡ t → ⊥
    go zero h = absurd (omega arith)
    go (suc k) h = n

-- so a row goes on otherwise than with t just where its runs do
pub runs_ends : (t : ℕ) (row : List ℕ) → Ends t row ↔ TurnsFrom t (runs_of row)
runs_ends t row = (
  runs_turn t row,
  λ other. rw (runs_expanded row) at (expanded_ends t (runs_of row) (runs_proper row) other),
)

pub expanded_runs : (rs : List Run) → Proper rs → runs_of (expanded rs) ≡ rs
unfolding expanded runs_of
expanded_runs [] p = refl
expanded_runs (r ∷ rs) p =
    runs_from_lem r.len r.target (expanded rs) p.0 (expanded_ends r.target rs p.2 p.1)
    ∙ ap (λ (qs : List Run). r ∷ qs) (expanded_runs rs p.2)
