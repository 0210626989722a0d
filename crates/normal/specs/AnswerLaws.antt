-- Laws of the answers with a limit: what each answer tells, and that an answer after some growth is one from before it.
-- That it was too long is kept to the end; a term that fits is counted once.
use Rattle.std.specs.Prelude.{ℕ, ◌+◌, ◌≤◌, ◌≡◌, refl, Bool, true, false, cond, List, Option, None, Some}
use Rattle.std.proofs.Common.{arith, sym, ap, ◌∙◌}
use Rattle.meaning.specs.Re.{Re}
use Rattle.meaning.specs.Limited.{Fit, short, fit}
use Rattle.meaning.specs.Limited.Fit.{Long, Fits}
use Rattle.term.specs.declared.Built.{Built}
use Rattle.term.specs.Cells.{term}
use Rattle.term.specs.Area.{pending, Wasted, GrownFree, Room, MakesFree, Makes}
use Rattle.term.specs.Counts.{Countable}
use Rattle.term.specs.CellLaws.{wasted_grown, grown_free, room_after, makes_more, makes_free, makes_after, makes_kept}
use Rattle.normal.specs.Made.{Answers, MadeBy}
use Rattle.normal.specs.Builds.{Fitted}

-- a term was answered
pub record Got (s : List ℕ) (top : ℕ) (s' : List ℕ) (root top' : ℕ) (f : Fit) (more : ℕ) : Type 0 where
  pub value : Re
  pub fits : f ≡ Fits value
  pub makes : MakesFree pending s top s' root top' value more

-- ---- what an answer tells

term_told : (s : List ℕ) (top : ℕ) (s' : List ℕ) (made : Built) (f : Fit) (more : ℕ) → Answers s top s' (Some made) f more
    → Got s top s' made.root made.top f more
term_told s top s' made Long more a = absurd a
term_told s top s' made (Fits v) more a = record { value = v; fits = refl; makes = a }

pub got : {s : List ℕ} {top : ℕ} {s' : List ℕ} {r : Option Built} {f : Fit} {more : ℕ} {made : Built} → MadeBy s top s' r f more → r ≡ Some made
    → Got s top s' made.root made.top f more
got {s} {top} {s'} {r} {f} {more} {made} m e = term_told s top s' made f more (rw e at m.answers)

long_told : (s : List ℕ) (top : ℕ) (s' : List ℕ) (f : Fit) (more : ℕ) → Answers s top s' None f more
    → (f ≡ Long) × Wasted s top s' (top + more + pending)
long_told s top s' Long more a = (refl, a)
long_told s top s' (Fits v) more a = absurd a

pub long_is : {s : List ℕ} {top : ℕ} {s' : List ℕ} {r : Option Built} {f : Fit} {more : ℕ} → MadeBy s top s' r f more → r ≡ None → f ≡ Long
long_is {s} {top} {s'} {r} {f} {more} m e = (long_told s top s' f more (rw e at m.answers)).0

pub long_wasted : {s : List ℕ} {top : ℕ} {s' : List ℕ} {r : Option Built} {f : Fit} {more : ℕ} → MadeBy s top s' r f more → r ≡ None
    → Wasted s top s' (top + more + pending)
long_wasted {s} {top} {s'} {r} {f} {more} m e = (long_told s top s' f more (rw e at m.answers)).1

-- ---- answers made

as_term : {s : List ℕ} {top : ℕ} {s' : List ℕ} {more : ℕ} {v : Re} (made : Built) (f : Fit) → Fits v ≡ f
    → MakesFree pending s top s' made.root made.top v more → MadeBy s top s' (Some made) f more
as_term made f e m = rw (sym e) (record { answers = m })

as_long : {s : List ℕ} {top : ℕ} {s' : List ℕ} (more : ℕ) (f : Fit) → f ≡ Long → Wasted s top s' (top + more + pending) → MadeBy s top s' None f more
as_long more f e w = rw e (record { answers = w })

pub made_term : {s : List ℕ} {top : ℕ} {s' : List ℕ} {more : ℕ} {v : Re} (made : Built) (f : Fit) (most : ℕ)
    → MakesFree pending s top s' made.root made.top v more → f ≡ Fits v → more ≤ most → MadeBy s top s' (Some made) f most
made_term made f most m e h = as_term made f (sym e) (makes_more most m h)

-- after a growth
wasted_after : {s : List ℕ} {top : ℕ} {s' : List ℕ} {top' : ℕ} {s'' : List ℕ} {end : ℕ} (most : ℕ) → GrownFree pending s top s' top'
    → top' + pending ≤ most → Wasted s' top' s'' end → end ≤ most → Wasted s top s'' most
wasted_after most g h w k =
    let up = g.up in
    record {
      same_length = w.same_length ∙ g.same_length;
      kept_below = λ i l. w.kept_below i (omega arith) ∙ g.kept_below i l;
      kept_above = λ i l. w.kept_above i (omega arith) ∙ g.kept_above i (omega arith);
    }

after : {s : List ℕ} {top : ℕ} {s' : List ℕ} {top' : ℕ} (s'' : List ℕ) (r : Option Built) (f : Fit) (used more most : ℕ) → GrownFree pending s top s' top'
    → top' ≤ top + used → used + more ≤ most → Answers s' top' s'' r f more → Answers s top s'' r f most
after s'' (Some made) Long used more most g h k a = absurd a
after s'' (Some made) (Fits v) used more most g h k a = makes_more most (makes_after used g h a) k
after {top = top} s'' None Long used more most g h k a = wasted_after (top + most + pending) g (omega arith) a (omega arith)
after s'' None (Fits v) used more most g h k a = absurd a

pub made_after : {s : List ℕ} {top : ℕ} {s' : List ℕ} {top' : ℕ} {s'' : List ℕ} {r : Option Built} {f : Fit} {more : ℕ} (used most : ℕ) (g : Fit)
    → GrownFree pending s top s' top' → top' ≤ top + used → MadeBy s' top' s'' r f more → f ≡ g → used + more ≤ most → MadeBy s top s'' r g most
made_after {s'' = s''} {r = r} {f = f} {more = more} used most g x h m e k = rw (sym e) (record { answers = after s'' r f used more most x h k m.answers })

pub long_after : {s : List ℕ} {top : ℕ} {s' : List ℕ} {top' : ℕ} {s'' : List ℕ} {r : Option Built} {f : Fit} {more : ℕ} (used most : ℕ) (g : Fit)
    → GrownFree pending s top s' top' → top' ≤ top + used → MadeBy s' top' s'' r f more → r ≡ None → g ≡ Long → used + more ≤ most
    → MadeBy s top s'' None g most
long_after {s} {top} {s'} {top'} {s''} {r} {f} {more} used most g x h m d e k =
    as_long most g e (wasted_after (top + most + pending) x (omega arith) (long_wasted m d) (omega arith))

-- ---- a result is counted

fit_short : (v : Re) → short v ≡ true → fit v ≡ Fits v
fit_short v e = rw e

fit_long : (v : Re) → short v ≡ false → fit v ≡ Long
fit_long v e = rw e

module _ {s : List ℕ} {top : ℕ} {s' : List ℕ} {made : Built} {more : ℕ} {v : Re} (m : Makes s top s' made.root made.top v more) where
  pub made_counts : Room s top (more + pending) → Countable s' made.top made.root
  made_counts room = record { sound = m.grown.sound; held = m.within; room = room_after more pending m.grown m.few room }

  -- counting leaves it where it is
  pub fitted : {s'' : List ℕ} {r : Option Built} → Fitted s' made s'' r → MadeBy s top s'' r (fit v) more
  fitted {s''} {r} c = go (short v) refl
    where
      told : {q : Bool} → short v ≡ q → r ≡ cond q (Some made) None
      told e = rw (← e, ← m.is) c.is

      go : (q : Bool) → short v ≡ q → MadeBy s top s'' r (fit v) more
      go true e =
          let still = makes_kept 0 (makes_free pending m) (wasted_grown m.grown.sound c.wasted) (omega arith) in
          rw (told e) (as_term made (fit v) (sym (fit_short v e)) (makes_more more still (omega arith)))
      go false e =
          let few = m.few in
          rw (told e)
          (as_long more (fit v) (fit_long v e) (wasted_after (top + more + pending) (grown_free pending m.grown) (omega arith) c.wasted (omega arith)))

-- and where it is known to fit it need not be
pub fits_made : {s : List ℕ} {top : ℕ} {s' : List ℕ} {more : ℕ} {v : Re} (made : Built) → Makes s top s' made.root made.top v more
    → short (term s' made.root) ≡ true → MadeBy s top s' (Some made) (fit v) more
fits_made {v = v} made m h = as_term made (fit v) (sym (fit_short v (sym (ap short m.is) ∙ h))) (makes_free pending m)
