-- Vector 0 in the work area, book by book: what the code asks, and what it leaves; and how a walk begins there.
-- What has come of a vector is told by its terms; the rules of one more book are put behind those before.
use Rattle.std.specs.Prelude.{ℕ, ◌≤◌, ◌≡◌, Option, IfSome, IfNone, Result, List, [], ◌++◌, length}
use Rattle.number.specs.declared.Refusal.{Refusal}
use Rattle.number.specs.Limits.{pool}
use Rattle.number.specs.Refused.{Answer}
use Rattle.number.specs.Refused.Answer.{got, refused}
use Rattle.meaning.specs.Re.{Re}
use Rattle.book.specs.Book.{Book}
use Rattle.book.specs.Reads.{read_book}
use Rattle.book.specs.Expression.{meant}
use Rattle.pool.specs.Index.{Indexed}
use Rattle.walk.specs.Vectors.{Vector}
use Rattle.walk.specs.Vectors.Vector.{TooLong, Terms}
use Rattle.walk.specs.Walk.{Way, begin_by}
use Rattle.vector.specs.declared.Derived.{Derived}
use Rattle.vector.specs.Vectors.{vector_of}
use Rattle.vector.specs.Memory.{First}
use Rattle.steps.specs.declared.Reached.{Reached}
use Rattle.steps.specs.Step.{Steps}

-- the expressions of a book's rules; of a refused book nothing is claimed
abbrev pub rules_of_read : Answer Book → List Re
rules_of_read (got b after) = meant b
rules_of_read (refused r) = []

abbrev pub rules_in : List ℕ → List Re
rules_in file = rules_of_read (read_book file)

-- the file is a book that is read, with n rules
pub record Opened (file : List ℕ) (n : ℕ) : Type 0 where
  pub book : Book
  pub after : ℕ
  pub read : read_book file ≡ got book after
  pub many : length book.rules ≡ n

-- terms in front of a vector
abbrev pub fronts : List Re → Vector → Vector
fronts xs TooLong = TooLong
fronts xs (Terms ys) = Terms (xs ++ ys)

-- the answer is this vector: None where it is too long, else its n terms, with all their parts in a pool that holds nothing else; x is the pool's index
pub record Starts (u : Vector) (n : ℕ) (x s : List ℕ) (r : Option Derived) : Type 0 where
  pub too_long : IfNone r (u ≡ TooLong)
  pub terms : IfSome r (λ d. u ≡ Terms (vector_of s n d.vector.at))
  pub first : IfSome r (λ d. First s n d.top d.vector.at)
  pub indexed : IfSome r (λ d. Indexed x s d.top)

-- the answer is the beginning of the walk from this vector 0, whatever its way, if that allows an item at all and as many terms as the pool takes
pub record Enters (u : Vector) (n : ℕ) (s s' : List ℕ) (r : Result Reached Refusal) : Type 0 where
  pub enters : (way : Way) → 1 ≤ way.limit → way.terms ≡ pool → Steps s n 0 way.limit s' (begin_by way u) r
