-- The limits of a walk, told of texts alone: which text passes one first, which limit that is, and the number of what the text leaves. No walk stands here.
-- What a text leads to is a parameter: building tells this of vectors, and comparing of pairs.
use Rattle.std.specs.Prelude.{ℕ, suc, ◌<◌, ◌≤◌, ◌≡◌, List, [], ◌∷◌, ◌++◌, ◌⊎◌, ◌↔◌, length}
use Rattle.number.specs.Limits.{bytes, pool}
use Rattle.number.specs.Numbers.{Bytes}
use Rattle.number.specs.Refused.{Row}
use Rattle.number.specs.Refused.Row.{no_row, row}
use Rattle.meaning.specs.Re.{Re, Text}
use Rattle.meaning.specs.Rules.{derive_by, start}
use Rattle.walk.specs.Vectors.{derived, normalised}
use Rattle.walk.specs.Vectors.Vector.{TooLong}
use Rattle.walk.specs.Parts.{PartOf, Once, InPool}
use Rattle.walk.specs.Texts.{Sooner, NotLater}

abbrev pub vector_after : List Re → Text → List Re
vector_after rs w = derive_by (start rs) w

-- ---- numbers

-- the first texts of n goals, in their order: they lead to different goals, and whatever is sooner than one leads to a goal before it
pub record Firsts {A : Type 0} (goal : Text → A) (text : ℕ → Text) (n : ℕ) : Type 0 where
  pub is_text : (k : ℕ) → k < n → Bytes (text k)
  pub apart : (j k : ℕ) → j < k → k < n → goal (text j) ≡ goal (text k) → ⊥
  pub first : (k : ℕ) → k < n → (v : Text) → Bytes v → Sooner v (text k) → (j : ℕ) × (j < k) × (goal v ≡ goal (text j))

-- n is the number of the goal that a text leads to: goals are numbered from 0 in the order of their first texts.
-- The empty text comes before all others, so that the goal that it leads to has number 0, also where another text leads back to it.
pub record NumberOf {A : Type 0} (goal : Text → A) (w : Text) (n : ℕ) : Type 0 where
  pub text : ℕ → Text
  pub firsts : Firsts goal text (suc n)
  pub is : goal w ≡ goal (text n)

-- the number of the goal that a text leaves by its last byte; 0 for the empty text
pub data Leaving {A : Type 0} (goal : Text → A) (text : Text) (place : ℕ) : Type 0 where
  nothing : text ≡ [] → place ≡ 0 → Leaving goal text place
  goal_of : (w : Text) (c : ℕ) → text ≡ w ++ (c ∷ []) → NumberOf goal w place → Leaving goal text place

-- ---- what a text may pass

-- the step that a text ends with takes a derivative that is too long; for the empty text, the rules themselves are
pub data LongAt (rs : List Re) (text : Text) : Type 0 where
  rules : text ≡ [] → normalised rs ≡ TooLong → LongAt rs text
  step : (w : Text) (c : ℕ) → Bytes w → c < bytes → text ≡ w ++ (c ∷ []) → derived c (vector_after rs w) ≡ TooLong → LongAt rs text

-- distinct terms, each a part of a vector that a text leads to, up to a text; the empty text counts here
pub record TermsTo (rs : List Re) (last : Text) (terms : List Re) : Type 0 where
  pub once : Once terms
  pub part : (x : Re) → InPool terms x → (w : Text) × Bytes w × NotLater w last × PartOf x (vector_after rs w)

-- more terms than may be held, up to a text
abbrev pub Crowded : List Re → Text → Type 0
Crowded rs last = (terms : List Re) × TermsTo rs last terms × (pool < length terms)

-- what is held for rules: the goal that a text leads to, the least length of a text that counts, how many goals there may be, and the row of the refusal of one more
pub record Holding (A : Type 0) : Type 0 where
  pub rules : List Re
  pub goal : Text → A
  pub from : ℕ
  pub most : ℕ
  pub full : ℕ

-- n different goals that texts which count lead to, up to a text
pub record GoalsTo {A : Type 0} (x : Holding A) (last : Text) (n : ℕ) : Type 0 where
  pub text : ℕ → Text
  pub is_text : (k : ℕ) → k < n → Bytes (text k)
  pub enough : (k : ℕ) → k < n → x.from ≤ length (text k)
  pub soon : (k : ℕ) → k < n → NotLater (text k) last
  pub apart : (j k : ℕ) → j < k → k < n → x.goal (text j) ≡ x.goal (text k) → ⊥

-- ---- refusals

module _ {A : Type 0} (x : Holding A) where
  -- no limit is passed before a text
  pub record Unpassed (last : Text) : Type 0 where
    pub none_long : (v : Text) → Bytes v → Sooner v last → LongAt x.rules v → ⊥
    pub goals_few : (v : Text) (n : ℕ) → Sooner v last → GoalsTo x v n → n ≤ x.most
    pub terms_few : (v : Text) (terms : List Re) → Sooner v last → TermsTo x.rules v terms → length terms ≤ pool

  -- the first text at which a limit is passed, and the number of the goal that it leaves
  pub record FirstPast (last : Text) (place : ℕ) : Type 0 where
    pub is_text : Bytes last
    pub before : Unpassed last
    pub leaving : Leaving x.goal last place

  -- no text passes a limit
  abbrev pub WithinLimits : Type 0
  WithinLimits = (last : Text) → Unpassed last

  -- where a walk declines, by the row of its refusal and the place that goes with it; the tests come in the order of the fields.
  -- Row 6 is Long; then comes the row of one goal more than there may be; row 7 is Pool; there is no other, and no refusal exactly where no text passes a limit
  pub record Limits (answer : Row) : Type 0 where
    pub long : (place : ℕ) → (answer ≡ row 6 place) ↔ ((last : Text) × FirstPast last place × LongAt x.rules last)
    pub goals_full : (place : ℕ)
        → (answer ≡ row x.full place) ↔ ((last : Text) × FirstPast last place × (LongAt x.rules last → ⊥) × GoalsTo x last (suc x.most))
    pub pool_full : (place : ℕ)
        → (answer ≡ row 7 place)
        ↔ ((last : Text) × FirstPast last place × (LongAt x.rules last → ⊥) × ((n : ℕ) → GoalsTo x last n → n ≤ x.most) × Crowded x.rules last)
    pub no_other : (n place : ℕ) → answer ≡ row n place → (n ≡ 6) ⊎ ((n ≡ x.full) ⊎ (n ≡ 7))
    pub none : (answer ≡ no_row) ↔ WithinLimits
