-- A whole text is read as these lines exactly where it spells them; and what it means that the reader stops at a byte.
-- What was read is held against the grammar state by state, and each state that was reached can be completed.
use Rattle.std.specs.Prelude.{ℕ, zero, suc, ◌+◌, ◌*◌, ◌-◌, ◌≡◌, refl, Bool, true, false, cond, ◌&&◌, List, [], ◌∷◌, ◌++◌, ◌↔◌, eqb, leb, take}
use Rattle.std.proofs.Common.{arith, sym, ap, subst, ◌∙◌, append_assoc, append-nil, take_all, eqb-true, leb-true}
use Rattle.std.proofs.Math.Option.{Option}
use Rattle.std.proofs.Math.Option.Option.{none, some}
use Rattle.number.specs.Branch.{by_cond}
use Rattle.number.specs.Limits.{deep}
use Rattle.meaning.specs.Re.{Text}
use Rattle.typed.specs.Exp.{Exp}
use Rattle.typed.specs.Spells.{between, bare}
use Rattle.typed.specs.Reader.{State, Step, key, by_key, step, onward, runs, ended, begin, made}
use Rattle.typed.specs.Reader.Frame.{bared, held}
use Rattle.typed.specs.Reader.Mode.{plain, escape, half, naming}
use Rattle.typed.specs.Reader.State.{at}
use Rattle.typed.specs.Reader.Step.{wrong, go}
use Rattle.typed.proofs.SpelledIsRead.{is_read}
use Rattle.typed.proofs.ReadIsSpelled.{Held, HeldBy, step_held, Spelled, ended_held}
use Rattle.typed.proofs.ReadIsSpelled.Held.{in_plain}
use Rattle.typed.proofs.ReadIsSpelled.HeldBy.{none_held, still}
use Rattle.typed.proofs.ReadIsSpelled.Nested.{outmost}
use Rattle.typed.proofs.ReadIsSpelled.Kept.{fresh}
use Rattle.typed.specs.TestLaws.{none_some}
use Rattle.typed.proofs.Completes.{Completed, completes}
use Rattle.typed.specs.Scan.{Reading, then, after, accepted}
use Rattle.typed.specs.Scan.Reading.{typed}
use Rattle.typed.specs.ScanLaws.{Stops, after_append, after_none, scan_typed, typed_scan, scan_wrong}
use Rattle.typed.specs.LineReader.{Whole, begins, colon, on_digit, ends, stepped, turn, accept, at_first, read_lines}
use Rattle.typed.specs.Lines.{Line, digit, Counts, Kinds, SpellsLine, SpellsAll, RightlyTyped, WrongAt}
use Rattle.typed.specs.Lines.Line.{rule}
use Rattle.typed.specs.Lines.Counts.{leads, goes_on}
use Rattle.typed.specs.Lines.Kinds.{nought, counts}
use Rattle.typed.specs.Lines.SpellsLine.{line}
use Rattle.typed.specs.Lines.SpellsAll.{no_line, one_more}
use Rattle.typed.specs.LineReader.Place.{starting, zeroed, counted, reading}
use Rattle.typed.specs.LineReader.Whole.{whole}

abbrev run : Option Whole → Text → Option Whole
run = after turn

both : (x : Option Whole) {y z : Option Whole} (v w : Text) → run x v ≡ y → run y w ≡ z → run x (v ++ w) ≡ z
both x v w d e = after_append turn x v w ∙ ap (λ s. run s w) d ∙ e

runs_wrong : (w : Text) (u : State) → runs wrong w ≡ go u → ⊥
unfolding runs onward
runs_wrong [] u e = let z : ◌≡◌ {A = ℕ} 0 1 = cc in omega arith
runs_wrong (c ∷ w) u e = runs_wrong w u e

wrong_ended : {e : Exp} → ended wrong ≡ some e → ⊥
unfolding ended
wrong_ended h = none_some h

-- spelled, so read
digit_read : (ls : List Line) (k x c : ℕ) → digit c ≡ some x → run (some (whole ls (counted k))) (c ∷ []) ≡ some (whole ls (counted (k * 10 + x)))
unfolding after turn on_digit
digit_read ls k x c h = rw h refl

counts_read : {w : Text} {k : ℕ} (ls : List Line) → Counts w k → run (some (whole ls starting)) w ≡ some (whole ls (counted k))
unfolding after turn begins
counts_read ls (leads c h) = rw h refl
counts_read ls (goes_on {w = w} {k = k} {x = x} c g h) = both (some (whole ls starting)) w (c ∷ []) (counts_read ls g) (digit_read ls k x c h)

kind_read : {w : Text} {k : ℕ} (ls : List Line) → Kinds w k → run (some (whole ls starting)) (w ++ (58 ∷ [])) ≡ some (whole ls (reading k begin))
unfolding after turn begins colon on_digit digit between
kind_read ls nought = refl
kind_read ls (counts {w = w} c) = both (some (whole ls starting)) w (58 ∷ []) (counts_read ls c) refl

pub steps_read : (ls : List Line) (k : ℕ) (s u : State) (w : Text) → runs (go s) w ≡ go u → run (some (whole ls (reading k s))) w ≡ some (whole ls (reading k u))
unfolding after turn runs onward stepped
steps_read ls k s u [] e = let z : s ≡ u = cc in ap (λ x. some (whole ls (reading k x))) z
steps_read ls k s u (c ∷ w) e = by_step (step s c) refl e (λ v. steps_read ls k v u w)
  where
    by_step : (x : Step) → step s c ≡ x → runs x w ≡ go u
        → ((v : State) → runs (go v) w ≡ go u → run (some (whole ls (reading k v))) w ≡ some (whole ls (reading k u)))
        → run (stepped ls k s c (step s c)) w ≡ some (whole ls (reading k u))
    by_step wrong h d ih = absurd (runs_wrong w u d)
    by_step (go v) h d ih = rw (h, stepped) (ih v d)

pub newline_read : (ls : List Line) (k : ℕ) (b r : Option Exp) (e : Exp) (n : ℕ)
    → run (some (whole ls (reading k (at plain (held b r e) [] n)))) (10 ∷ []) ≡ some (whole (ls ++ (rule k (made b r e) ∷ [])) starting)
unfolding after turn stepped step key bare between by_key ended ends
newline_read ls k b r e n = refl

line_read : {w : Text} {l : Line} (ls : List Line) → SpellsLine w l → run (some (whole ls starting)) w ≡ some (whole (ls ++ (l ∷ [])) starting)
line_read ls (line {v = v} {w = w} {k = k} {e = e} a s) =
    let c = is_read s [] in
    ap (run (some (whole ls starting))) (sym (append_assoc v (58 ∷ []) (w ++ (10 ∷ []))))
    ∙ both (some (whole ls starting)) (v ++ (58 ∷ [])) (w ++ (10 ∷ [])) (kind_read ls a)
    (both (some (whole ls (reading k begin))) w (10 ∷ []) (steps_read ls k begin (at plain (held c.before c.row c.last) [] deep) w c.read)
    (newline_read ls k c.before c.row c.last deep ∙ ap (λ x. some (whole (ls ++ (rule k x ∷ [])) starting)) c.is))

all_read : {w : Text} {ls : List Line} → SpellsAll w ls → run (some at_first) w ≡ some (whole ls starting)
unfolding after
all_read no_line = refl
all_read (one_more {v = v} {w = w} {ls = ls} a l) = both (some at_first) v w (all_read a) (line_read ls l)

-- read, so spelled
pub data HeldAll : Text → Whole → Type 0 where
  at_start : {w : Text} {ls : List Line} → SpellsAll w ls → HeldAll w (whole ls starting)
  at_zero : {w : Text} {ls : List Line} → SpellsAll w ls → HeldAll (w ++ (48 ∷ [])) (whole ls zeroed)
  at_count : {v w : Text} {ls : List Line} {k : ℕ} → SpellsAll w ls → Counts v k → HeldAll (w ++ v) (whole ls (counted k))
  in_exp : {u v w : Text} {ls : List Line} {k : ℕ} {s : State} → SpellsAll w ls → Kinds v k → Held u s → HeldAll (w ++ (v ++ (58 ∷ u))) (whole ls (reading k s))

pub data AllBy : Text → Option Whole → Type 0 where
  no_more : {w : Text} → AllBy w none
  so_far : {w : Text} {x : Whole} → HeldAll w x → AllBy w (some x)

pub held_as : {v w : Text} {x : Whole} → v ≡ w → HeldAll v x → HeldAll w x
held_as {x = x} h k = subst (λ (t : Text). HeldAll t x) h k

by_as : {v w : Text} {x : Option Whole} → v ≡ w → AllBy v x → AllBy w x
by_as {x = x} h k = subst (λ (t : Text). AllBy t x) h k

-- a digit is a byte, and 0 is the byte 48
digit_zero : (c : ℕ) → digit c ≡ some 0 → c ≡ 48
unfolding digit between
digit_zero c h = zero_by (leb 48 c) (leb c 57) refl refl h
  where
    zero_by : (a b : Bool) → leb 48 c ≡ a → leb c 57 ≡ b → cond (a && b) (some (c - 48)) none ≡ some 0 → c ≡ 48
    zero_by true true p q e = let z : c - 48 ≡ 0 = cc in omega (arith, leb-true 48 c p)
    zero_by true false p q e = absurd (none_some e)
    zero_by false b p q e = absurd (none_some e)

-- (w ++ (v ++ (a ∷ u))) ++ t
inner : (w v u t : Text) (a : ℕ) → (w ++ (v ++ (a ∷ u))) ++ t ≡ w ++ (v ++ (a ∷ (u ++ t)))
inner w v u t a = append_assoc w (v ++ (a ∷ u)) t ∙ ap (w ++◌) (append_assoc v (a ∷ u) t)

begins_held : {w : Text} (ls : List Line) (c : ℕ) (o : Option ℕ) → digit c ≡ o → SpellsAll w ls → AllBy (w ++ (c ∷ [])) (begins ls o)
unfolding begins
begins_held ls c none h a = no_more
begins_held {w} ls c (some zero) h a = so_far (subst (λ (x : ℕ). HeldAll (w ++ (x ∷ [])) (whole ls zeroed)) (sym (digit_zero c h)) (at_zero a))
begins_held ls c (some (suc x)) h a = so_far (at_count a (leads c h))

colon_held : {v w : Text} {k : ℕ} (ls : List Line) (c : ℕ) → SpellsAll w ls → Kinds v k → AllBy ((w ++ v) ++ (c ∷ [])) (colon ls k c)
unfolding colon
colon_held {v} {w} {k} ls c a g =
    by_cond (AllBy ((w ++ v) ++ (c ∷ []))) (eqb c 58)
    (λ h. so_far (subst (λ (x : ℕ). HeldAll ((w ++ v) ++ (x ∷ [])) (whole ls (reading k begin))) (sym (eqb-true c 58 h))
    (held_as (sym (append_assoc w v (58 ∷ []))) (in_exp a g (in_plain (outmost fresh))))))
    (λ _. no_more)

digit_held : {v w : Text} {k : ℕ} (ls : List Line) (c : ℕ) (o : Option ℕ) → digit c ≡ o → SpellsAll w ls → Counts v k
    → AllBy ((w ++ v) ++ (c ∷ [])) (on_digit ls k c o)
unfolding on_digit
digit_held ls c none h a g = colon_held ls c a (counts g)
digit_held {v} {w} ls c (some x) h a g = so_far (held_as (sym (append_assoc w v (c ∷ []))) (at_count a (goes_on c g h)))

ends_held : {v w : Text} {k : ℕ} (u : Text) (ls : List Line) (o : Option Exp) → SpellsAll w ls → Kinds v k → Spelled u o
    → AllBy ((w ++ (v ++ (58 ∷ u))) ++ (10 ∷ [])) (ends ls k o)
unfolding ends
ends_held u ls none a g h = no_more
ends_held {v} {w} u ls (some e) a g h = so_far (held_as (sym (inner w v u (10 ∷ []) 58)) (at_start (one_more a (line g h))))

stepped_held : {u v w : Text} {k : ℕ} {s : State} (ls : List Line) (c : ℕ) (x : Step) → SpellsAll w ls → Kinds v k → Held u s → HeldBy (u ++ (c ∷ [])) x
    → AllBy ((w ++ (v ++ (58 ∷ u))) ++ (c ∷ [])) (stepped ls k s c x)
unfolding stepped
stepped_held {u} {v} {w} {k} {s} ls c wrong a g h none_held =
    by_cond (AllBy ((w ++ (v ++ (58 ∷ u))) ++ (c ∷ []))) (eqb c 10)
    (λ e. subst (λ (x : ℕ). AllBy ((w ++ (v ++ (58 ∷ u))) ++ (x ∷ [])) (ends ls k (ended (go s)))) (sym (eqb-true c 10 e))
    (ends_held u ls (ended (go s)) a g (ended_held u (go s) (still h))))
    (λ _. no_more)
stepped_held {u} {v} {w} ls c (go y) a g h (still i) = so_far (held_as (sym (inner w v u (c ∷ []) 58)) (in_exp a g i))

turn_held : {w : Text} {x : Whole} (c : ℕ) → HeldAll w x → AllBy (w ++ (c ∷ [])) (turn x c)
unfolding turn
turn_held c (at_start {ls = ls} a) = begins_held ls c (digit c) refl a
turn_held c (at_zero {ls = ls} a) = colon_held ls c a nought
turn_held c (at_count {ls = ls} a g) = digit_held ls c (digit c) refl a g
turn_held c (in_exp {ls = ls} {s = s} a g h) = stepped_held ls c (step s c) a g h (step_held c h)

then_held : {w : Text} (x : Option Whole) (c : ℕ) → AllBy w x → AllBy (w ++ (c ∷ [])) (then turn x c)
then_held none c no_more = no_more
then_held (some x) c (so_far h) = turn_held c h

pub run_held : {w : Text} (x : Option Whole) (t : Text) → AllBy w x → AllBy (w ++ t) (run x t)
unfolding after
run_held {w} x [] h = by_as (sym (append-nil w)) h
run_held {w} x (c ∷ t) h = by_as (append_assoc w (c ∷ []) t) (run_held (then turn x c) t (then_held x c h))

pub first_held : (t : Text) → AllBy t (run (some at_first) t)
first_held t = run_held (some at_first) t (so_far (at_start no_line))

abbrev SpelledAs : Text → Option (List Line) → Type 0
SpelledAs w none = Unit {0}
SpelledAs w (some ls) = SpellsAll w ls

accept_held : (w : Text) (x : Option Whole) → AllBy w x → SpelledAs w (accepted accept x)
unfolding accept
accept_held w none no_more = tt
accept_held w (some (whole ls starting)) (so_far (at_start a)) = a
accept_held w (some (whole ls zeroed)) h = tt
accept_held w (some (whole ls (counted k))) h = tt
accept_held w (some (whole ls (reading k s))) h = tt

-- the reader answers these lines exactly where the text spells them
pub the_typing : (text : Text) (ls : List Line) → (read_lines text ≡ typed ls) ↔ SpellsAll text ls
unfolding read_lines accept
the_typing text ls = (
  λ e. subst (SpelledAs text) (scan_typed turn accept 0 at_first text ls e) (accept_held text (run (some at_first) text) (first_held text)),
  λ a. typed_scan turn accept 0 at_first text ls (ap (accepted accept) (all_read a)),
)

-- every state that was reached can be completed
pub record Ends (x : Whole) : Type 0 where
  pub with : Text
  pub lines : List Line
  pub is : accepted accept (run (some x) with) ≡ some lines

ends_first : (x : Whole) {y : Whole} (t : Text) → run (some x) t ≡ some y → Ends y → Ends x
ends_first x t e c =
    record {
      with = t ++ c.with;
      lines = c.lines;
      is = ap (accepted accept) (after_append turn (some x) t c.with ∙ ap (λ s. run s c.with) e) ∙ c.is;
    }

ends_now : (ls : List Line) → Ends (whole ls starting)
unfolding after accept
ends_now ls = record { with = []; lines = ls; is = refl }

-- a state in which an expression is whole takes a newline
whole_ends : (ls : List Line) (k : ℕ) (e : Exp) (s : State) → ended (go s) ≡ some e → Ends (whole ls (reading k s))
unfolding ended
whole_ends ls k e (at plain (held b r l) [] n) h =
    ends_first (whole ls (reading k (at plain (held b r l) [] n))) (10 ∷ []) (newline_read ls k b r l n)
    (ends_now (ls ++ (rule k (made b r l) ∷ [])))
whole_ends ls k e (at plain (held b r l) (f ∷ fs) n) h = absurd (none_some h)
whole_ends ls k e (at plain (bared b) fs n) h = absurd (none_some h)
whole_ends ls k e (at escape f fs n) h = absurd (none_some h)
whole_ends ls k e (at (half x) f fs n) h = absurd (none_some h)
whole_ends ls k e (at (naming w) f fs n) h = absurd (none_some h)

exp_ends : (ls : List Line) (k : ℕ) (s : State) → Completed (go s) → Ends (whole ls (reading k s))
exp_ends ls k s c = by_run (runs (go s) c.with) refl c.is
  where
    by_run : (x : Step) → runs (go s) c.with ≡ x → ended x ≡ some c.as_exp → Ends (whole ls (reading k s))
    by_run wrong h e = absurd (wrong_ended e)
    by_run (go u) h e = ends_first (whole ls (reading k s)) c.with (steps_read ls k s u c.with h) (whole_ends ls k c.as_exp u e)

kind_ends : (ls : List Line) (k : ℕ) (x : Whole) → run (some x) (58 ∷ []) ≡ some (whole ls (reading k begin)) → Ends x
kind_ends ls k x e = ends_first x (58 ∷ []) e (exp_ends ls k begin (completes (in_plain (outmost fresh))))

colon_read : (ls : List Line) (k : ℕ) → run (some (whole ls (counted k))) (58 ∷ []) ≡ some (whole ls (reading k begin))
unfolding after turn colon on_digit digit between
colon_read ls k = refl

zero_read : (ls : List Line) → run (some (whole ls zeroed)) (58 ∷ []) ≡ some (whole ls (reading 0 begin))
unfolding after turn colon
zero_read ls = refl

pub all_end : {w : Text} {x : Whole} → HeldAll w x → Ends x
all_end (at_start {ls = ls} a) = ends_now ls
all_end (at_zero {ls = ls} a) = kind_ends ls 0 (whole ls zeroed) (zero_read ls)
all_end (at_count {ls = ls} {k = k} a g) = kind_ends ls k (whole ls (counted k)) (colon_read ls k)
all_end (in_exp {ls = ls} {k = k} {s = s} a g h) = exp_ends ls k s (completes h)

-- what a wrong byte means
rightly : (text : Text) (ls : List Line) → accepted accept (run (some at_first) text) ≡ some ls → RightlyTyped text
rightly text ls e = record { lines = ls; spells = subst (SpelledAs text) e (accept_held text (run (some at_first) text) (first_held text)) }

accepts : {text : Text} {ls : List Line} → SpellsAll text ls → accepted accept (run (some at_first) text) ≡ some ls
unfolding accept
accepts a = ap (accepted accept) (all_read a)

held_of : (w : Text) (x : Option Whole) (s : Whole) → x ≡ some s → AllBy w x → HeldAll w s
held_of w none s e no_more = absurd (none_some e)
held_of w (some y) s e (so_far h) = let z : y ≡ s = cc in subst (HeldAll w) z h

nothing_after : (x : Option Whole) (t : Text) (ls : List Line) → x ≡ none → accepted accept (run x t) ≡ some ls → ⊥
nothing_after x t ls e h = none_some (sym (ap (accepted accept) (ap (λ y. run y t) e ∙ after_none turn t)) ∙ h)

wrong_so : (text : Text) (p : ℕ) → Stops turn accept at_first text p → WrongAt text p
wrong_so text p s =
    let c = all_end (held_of (take p text) (run (some at_first) (take p text)) s.state s.reached (first_held (take p text))) in
    record {
      inside = s.inside;
      rest = c.with;
      goes_on = rightly (take p text ++ c.with) c.lines
          (ap (accepted accept) (after_append turn (some at_first) (take p text) c.with ∙ ap (λ y. run y c.with) s.reached) ∙ c.is);
      no_other = λ l t a. nothing_after (run (some at_first) (take (suc p) text)) t a.lines (s.at_byte l)
          (sym (ap (accepted accept) (after_append turn (some at_first) (take (suc p) text) t)) ∙ accepts a.spells);
      not_the_end = λ l a. none_some
          (sym (s.at_end_lem l) ∙ sym (ap (accepted accept) (sym (ap (run (some at_first)) (take_all p text (omega arith))) ∙ s.reached))
          ∙ accepts a.spells);
    }

pub the_wrong_byte : (text : Text) (p : ℕ) → read_lines text ≡ Reading.wrong p → WrongAt text p
unfolding read_lines
the_wrong_byte text p e =
    let r = scan_wrong turn accept 0 at_first text p e in
    let s = r.stops in
    let k : r.count ≡ p = omega (arith, r.is) in
    subst (WrongAt text) k (wrong_so text r.count s)
