-- Reading a file: a reader starts at a place and answers what it got and the place after it, or a refusal, which ends the reading.
-- Written in do blocks, readers of whole files follow document 01 line by line.
use Rattle.std.specs.Prelude.{ℕ, Bool, cond, List, ltb, length}
use Rattle.number.specs.declared.Refusal.{Refusal}
use Rattle.number.specs.declared.Refusal.TheVariants.{Tail}
use Rattle.number.specs.Refused.{Answer}
use Rattle.number.specs.Refused.Answer.{got, refused}

abbrev pub Reader : Type 0 → Type 0
Reader A = ℕ → Answer A

-- on from an answer; a refusal ends the reading at once
abbrev pub onward : {A B : Type 0} → Answer A → (A → Reader B) → Answer B
onward (got x next) f = f x next
onward (refused r) f = refused r

infixl 20 ◌>>=◌
abbrev pub ◌>>=◌ : {A B : Type 0} → Reader A → (A → Reader B) → Reader B
◌>>=◌ m f = λ at. onward (m at) f

infixl 20 ◌>>◌
abbrev pub ◌>>◌ : {A B : Type 0} → Reader A → Reader B → Reader B
◌>>◌ m n = λ at. onward (m at) (λ _. n)

-- nothing read
abbrev pub answer : {A : Type 0} → A → Reader A
answer x = λ at. got x at

-- the place that has been reached
abbrev pub here : Reader ℕ
here = λ at. got at at

-- refused where a test says so
abbrev pub refuse_if : Bool → Refusal → Reader (Unit {0})
refuse_if test r = λ at. cond test (refused r) (got tt at)

-- nothing follows
abbrev pub end : List ℕ → Reader (Unit {0})
end file = λ at. cond (ltb at (length file)) (refused (Tail at)) (got tt at)

-- the same answer with something else made of what was got
abbrev pub map_answer : {A B : Type 0} → (A → B) → Answer A → Answer B
map_answer f (got x next) = got (f x) next
map_answer f (refused r) = refused r
