-- What a builder with a limit answers, and what it leaves in the work area: a term in some cell, or None.
-- After None the cells below the old top and far above it are as they were; what lies between is waste.
use Rattle.std.specs.Prelude.{ℕ, ◌+◌, List, Option, None, Some}
use Rattle.meaning.specs.Limited.{Fit}
use Rattle.meaning.specs.Limited.Fit.{Long, Fits}
use Rattle.term.specs.declared.Built.{Built}
use Rattle.term.specs.Area.{pending, Wasted, MakesFree}

-- the answer is the limited form's, made with at most `more` cells; those above them that counting may use are free
abbrev pub Answers : List ℕ → ℕ → List ℕ → Option Built → Fit → ℕ → Type 0
Answers s top s' (Some made) Long more = ⊥
Answers s top s' (Some made) (Fits v) more = MakesFree pending s top s' made.root made.top v more
Answers s top s' None Long more = Wasted s top s' (top + more + pending)
Answers s top s' None (Fits v) more = ⊥

pub record MadeBy (s : List ℕ) (top : ℕ) (s' : List ℕ) (r : Option Built) (f : Fit) (more : ℕ) : Type 0 where
  pub answers : Answers s top s' r f more
