-- The sentences of documents 01 and 02 (K6) on normal form and on the derivative, clause by clause: each line has what is given, and the term or the vector that must come out.
-- FormsHold has the checker compute them all.
use Rattle.std.specs.Prelude.{ℕ, List, [], ◌∷◌}
use Rattle.meaning.specs.Re.{Re, Text}
use Rattle.meaning.specs.Re.Re.{Nothing, Empty, Range, Cat, Alt, Star, And, Not}
use Rattle.meaning.specs.Normal.{cat, alt, both, star, negated, normal}
use Rattle.meaning.specs.Derive.{deriv}
use Rattle.meaning.specs.Rules.{start, derive_by}
use Rattle.meaning.specs.Sample.{byte, W}

-- Cat, Alt, Star, And and Not of terms in normal form; the normal form of any term; the derivative by a byte;
-- the rules' vector of state 0, and the vector after a text
pub data Form : Type 0 where
  Sequence : Re → Re → Re → Form
  Choice : Re → Re → Re → Form
  Repeat : Re → Re → Form
  Meet : Re → Re → Re → Form
  Turn : Re → Re → Form
  Whole : Re → Re → Form
  Derived : ℕ → Re → Re → Form
  First : List Re → List Re → Form
  Reached : List Re → Text → List Re → Form

-- what comes out
abbrev pub answered : Form → List Re
answered (Sequence x y r) = cat x y ∷ []
answered (Choice x y r) = alt x y ∷ []
answered (Repeat x r) = star x ∷ []
answered (Meet x y r) = both x y ∷ []
answered (Turn x r) = negated x ∷ []
answered (Whole x r) = normal x ∷ []
answered (Derived c x r) = deriv c x ∷ []
answered (First rs vector) = start rs
answered (Reached rs text vector) = derive_by (start rs) text

-- what must come out
abbrev pub stated : Form → List Re
stated (Sequence x y r) = r ∷ []
stated (Choice x y r) = r ∷ []
stated (Repeat x r) = r ∷ []
stated (Meet x y r) = r ∷ []
stated (Turn x r) = r ∷ []
stated (Whole x r) = r ∷ []
stated (Derived c x r) = r ∷ []
stated (First rs vector) = vector
stated (Reached rs text vector) = vector

abbrev pub a : Re
a = byte 97

abbrev pub b : Re
b = byte 98

abbrev pub c : Re
c = byte 99

abbrev pub d : Re
d = byte 100

unfoldable pub forms : List Form
forms =
    -- Cat: Nothing on either side gives Nothing
    Sequence Nothing a Nothing ∷
    Sequence a Nothing Nothing ∷
    Sequence Nothing Nothing Nothing ∷
    Sequence Empty Nothing Nothing ∷
    Sequence Nothing Empty Nothing ∷
    -- Empty on a side gives the other side
    Sequence Empty a a ∷
    Sequence a Empty a ∷
    Sequence Empty Empty Empty ∷
    Sequence Empty (Cat a b) (Cat a b) ∷
    Sequence (Cat a b) Empty (Cat a b) ∷
    -- Cat(Cat(x,y),z) is Cat(x,Cat(y,z)), however deep
    Sequence (Cat a b) c (Cat a (Cat b c)) ∷
    Sequence (Cat a (Cat b c)) d (Cat a (Cat b (Cat c d))) ∷
    Sequence (Cat a b) (Cat c d) (Cat a (Cat b (Cat c d))) ∷
    -- anything else stays as it is
    Sequence a b (Cat a b) ∷
    Sequence b a (Cat b a) ∷
    Sequence a a (Cat a a) ∷
    Sequence a (Cat b c) (Cat a (Cat b c)) ∷
    Sequence (Alt a b) c (Cat (Alt a b) c) ∷
    Sequence (Alt Empty a) (Alt Empty a) (Cat (Alt Empty a) (Alt Empty a)) ∷
    Sequence (Star a) (Star a) (Cat (Star a) (Star a)) ∷
    Sequence (Star a) (Cat (Star a) b) (Cat (Star a) (Cat (Star a) b)) ∷
    -- Alt: members gathered from both sides, and nested to the right
    Choice a b (Alt a b) ∷
    Choice a (Alt b c) (Alt a (Alt b c)) ∷
    Choice (Alt a b) c (Alt a (Alt b c)) ∷
    Choice (Alt a b) (Alt c d) (Alt a (Alt b (Alt c d))) ∷
    Choice (Alt a (Alt b c)) d (Alt a (Alt b (Alt c d))) ∷
    Choice a (Alt b (Alt c d)) (Alt a (Alt b (Alt c d))) ∷
    -- Nothing dropped; none gives Nothing, one gives itself
    Choice Nothing a a ∷
    Choice a Nothing a ∷
    Choice Nothing (Alt a b) (Alt a b) ∷
    Choice (Alt a b) Nothing (Alt a b) ∷
    Choice Nothing Nothing Nothing ∷
    -- sorted: by kinds, by lo, then by hi, by the first part, then by the second
    Choice b a (Alt a b) ∷
    Choice (Alt b d) (Alt a c) (Alt a (Alt b (Alt c d))) ∷
    Choice (Alt a (Alt b d)) c (Alt a (Alt b (Alt c d))) ∷
    Choice a Empty (Alt Empty a) ∷
    Choice (Cat a b) (Range 255 255) (Alt (Range 255 255) (Cat a b)) ∷
    Choice (Star a) (Cat b c) (Alt (Cat b c) (Star a)) ∷
    Choice (Alt (Cat a b) (Star a)) (Alt Empty b) (Alt Empty (Alt b (Alt (Cat a b) (Star a)))) ∷
    Choice (Range 98 99) (Range 97 100) (Alt (Range 97 100) (Range 98 99)) ∷
    Choice (Range 97 100) (Range 97 99) (Alt (Range 97 99) (Range 97 100)) ∷
    Choice (Cat b a) (Cat a b) (Alt (Cat a b) (Cat b a)) ∷
    Choice (Cat a c) (Cat a b) (Alt (Cat a b) (Cat a c)) ∷
    Choice (Cat (Star a) b) (Cat (Alt a b) c) (Alt (Cat (Alt a b) c) (Cat (Star a) b)) ∷
    Choice (Star (Alt a b)) (Star (Cat a b)) (Alt (Star (Cat a b)) (Star (Alt a b))) ∷
    Choice (Star (Alt b c)) (Star (Alt a d)) (Alt (Star (Alt a d)) (Star (Alt b c))) ∷
    Choice (Star b) (Star a) (Alt (Star a) (Star b)) ∷
    -- equal members kept once
    Choice a a a ∷
    Choice Empty Empty Empty ∷
    Choice (Alt a b) b (Alt a b) ∷
    Choice a (Alt a b) (Alt a b) ∷
    Choice (Alt a b) (Alt a b) (Alt a b) ∷
    Choice (Alt a c) (Alt b c) (Alt a (Alt b c)) ∷
    Choice (Alt a (Alt b c)) (Alt b (Alt c d)) (Alt a (Alt b (Alt c d))) ∷
    -- and no more than that: nothing else is joined, dropped or shortened
    Choice Empty (Star a) (Alt Empty (Star a)) ∷
    Choice a (Star a) (Alt a (Star a)) ∷
    Choice (Range 97 98) (Range 99 100) (Alt (Range 97 98) (Range 99 100)) ∷
    Choice (Range 97 99) (Range 98 100) (Alt (Range 97 99) (Range 98 100)) ∷
    Choice (Range 97 122) b (Alt (Range 97 122) b) ∷
    Choice (Cat a b) (Cat a c) (Alt (Cat a b) (Cat a c)) ∷
    -- Star of Nothing or Empty is Empty; of a Star that Star; of anything else its Star
    Repeat Nothing Empty ∷
    Repeat Empty Empty ∷
    Repeat (Star a) (Star a) ∷
    Repeat a (Star a) ∷
    Repeat (Cat a b) (Star (Cat a b)) ∷
    Repeat (Cat (Star a) (Star b)) (Star (Cat (Star a) (Star b))) ∷
    Repeat (Alt a b) (Star (Alt a b)) ∷
    Repeat (Alt Empty a) (Star (Alt Empty a)) ∷
    Repeat (Alt a (Star b)) (Star (Alt a (Star b))) ∷
    -- And: members gathered from both sides, sorted, kept once, and nested to the right
    Meet a b (And a b) ∷
    Meet b a (And a b) ∷
    Meet (And a b) c (And a (And b c)) ∷
    Meet c (And a b) (And a (And b c)) ∷
    Meet (And b d) (And a c) (And a (And b (And c d))) ∷
    Meet (And a c) (And b c) (And a (And b c)) ∷
    Meet (Not a) (Star a) (And (Star a) (Not a)) ∷
    Meet (Alt a b) (Not (Alt a b)) (And (Alt a b) (Not (Alt a b))) ∷
    -- one member is itself; Nothing if a member is Nothing
    Meet a a a ∷
    Meet (And a b) (And a b) (And a b) ∷
    Meet a Nothing Nothing ∷
    Meet Nothing (And a b) Nothing ∷
    Meet Nothing Nothing Nothing ∷
    -- and no more than that: Empty, the Not of Nothing, a term and its Not stay; an And in a choice and a choice in an And too
    Meet Empty a (And Empty a) ∷
    Meet a (Not Nothing) (And a (Not Nothing)) ∷
    Meet a (Not a) (And a (Not a)) ∷
    Meet (Alt a b) a (And a (Alt a b)) ∷
    Choice (Not Nothing) a (Alt a (Not Nothing)) ∷
    Choice (And a b) (And a c) (Alt (And a b) (And a c)) ∷
    -- both sort after Star, And first
    Choice (Not a) (Alt (And a b) (Star a)) (Alt (Star a) (Alt (And a b) (Not a))) ∷
    Choice (And b c) (And a d) (Alt (And a d) (And b c)) ∷
    Choice (And a d) (And a c) (Alt (And a c) (And a d)) ∷
    Choice (Not b) (Not a) (Alt (Not a) (Not b)) ∷
    -- Not of Not is the inner term; of anything else its Not
    Turn (Not a) a ∷
    Turn a (Not a) ∷
    Turn Nothing (Not Nothing) ∷
    Turn Empty (Not Empty) ∷
    Turn (And a (Not b)) (Not (And a (Not b))) ∷
    Turn (Alt (Not a) (Not b)) (Not (Alt (Not a) (Not b))) ∷
    -- in a sequence and in a repetition they are terms like any other
    Sequence (And a b) (Not c) (Cat (And a b) (Not c)) ∷
    Repeat (Not a) (Star (Not a)) ∷
    Repeat (And a b) (Star (And a b)) ∷
    -- Either x is the Alt of its two one-byte Ranges: the capital stands first
    Whole (Alt (byte 97) (byte 65)) (Alt (byte 65) (byte 97)) ∷
    -- built upward: the parts first
    Whole Nothing Nothing ∷
    Whole Empty Empty ∷
    Whole (Range 97 122) (Range 97 122) ∷
    Whole (Cat (Cat (Cat a b) c) d) (Cat a (Cat b (Cat c d))) ∷
    Whole (Cat (Cat a b) (Cat c d)) (Cat a (Cat b (Cat c d))) ∷
    Whole (Cat (Cat a (Star Empty)) b) (Cat a b) ∷
    Whole (Cat (Alt Nothing Nothing) a) Nothing ∷
    Whole (Cat (Star Nothing) (Alt b a)) (Alt a b) ∷
    Whole (Alt (Alt (Alt d c) b) a) (Alt a (Alt b (Alt c d))) ∷
    Whole (Alt (Alt c b) (Alt b a)) (Alt a (Alt b c)) ∷
    Whole (Alt Nothing (Alt (Cat a Nothing) Nothing)) Nothing ∷
    Whole (Alt a (Alt Nothing (Alt Nothing a))) a ∷
    Whole (Alt (Cat (Cat a b) c) (Cat a (Cat b c))) (Cat a (Cat b c)) ∷
    Whole (Star (Star (Star a))) (Star a) ∷
    Whole (Star (Cat Empty (Star a))) (Star a) ∷
    Whole (Star (Alt Nothing Empty)) Empty ∷
    Whole (Star (Cat (Cat a b) c)) (Star (Cat a (Cat b c))) ∷
    Whole (And (And c b) (And b a)) (And a (And b c)) ∷
    Whole (And a (And (Cat b Nothing) c)) Nothing ∷
    Whole (And (Alt b a) (Alt a b)) (Alt a b) ∷
    Whole (Not (Not (Not a))) (Not a) ∷
    Whole (Not (Cat a Nothing)) (Not Nothing) ∷
    Whole (Alt a (Not (Not (Alt b a)))) (Alt a b) ∷
    Whole (Star (Not (Not (Star a)))) (Star a) ∷
    -- state 0 is the rules in normal form, rule for rule; W's stand in it already
    First (Cat (Cat a b) c ∷ Star (Star a) ∷ Cat a Nothing ∷ Alt b a ∷ Alt b a ∷ []) (Cat a (Cat b c) ∷ Star a ∷ Nothing ∷ Alt a b ∷ Alt a b ∷ []) ∷
    First W W ∷
    []

unfoldable pub derivatives : List Form
derivatives =
    -- Nothing and Empty give Nothing; Range gives Empty if lo ≤ c ≤ hi, else Nothing
    Derived 97 Nothing Nothing ∷
    Derived 97 Empty Nothing ∷
    Derived 97 (Range 98 100) Nothing ∷
    Derived 98 (Range 98 100) Empty ∷
    Derived 99 (Range 98 100) Empty ∷
    Derived 100 (Range 98 100) Empty ∷
    Derived 101 (Range 98 100) Nothing ∷
    -- Alt(Da, Db)
    Derived 97 (Alt a b) Empty ∷
    Derived 98 (Alt a b) Empty ∷
    Derived 99 (Alt a b) Nothing ∷
    Derived 97 (Alt (Cat a b) (Cat a c)) (Alt b c) ∷
    Derived 97 (Alt (Cat (Range 97 97) c) (Cat (Range 97 98) b)) (Alt b c) ∷
    -- Star a gives Cat(Da, Star a)
    Derived 97 (Star a) (Star a) ∷
    Derived 98 (Star a) Nothing ∷
    Derived 97 (Star (Cat a b)) (Cat b (Star (Cat a b))) ∷
    Derived 97 (Star (Alt a (Cat a b))) (Cat (Alt Empty b) (Star (Alt a (Cat a b)))) ∷
    -- Cat(a,b) gives Cat(Da,b) where a does not match the empty text
    Derived 97 (Cat a b) b ∷
    Derived 98 (Cat a b) Nothing ∷
    Derived 97 (Cat a (Star a)) (Star a) ∷
    Derived 97 (Cat (Alt (Cat a b) c) d) (Cat b d) ∷
    -- and Alt of that with Db where it does
    Derived 98 (Cat (Star a) b) Empty ∷
    Derived 97 (Cat (Star a) b) (Cat (Star a) b) ∷
    Derived 97 (Cat (Star a) a) (Alt Empty (Cat (Star a) a)) ∷
    Derived 97 (Cat (Star a) (Star a)) (Alt (Cat (Star a) (Star a)) (Star a)) ∷
    Derived 98 (Cat (Alt Empty a) (Cat b c)) c ∷
    Derived 97 (Cat (Alt Empty a) (Cat (Range 97 98) c)) (Alt c (Cat (Range 97 98) c)) ∷
    -- And and Not: through both
    Derived 97 (And (Cat a b) (Cat a c)) (And b c) ∷
    Derived 97 (And (Cat a b) (Cat b c)) Nothing ∷
    Derived 97 (And a (Not a)) (And Empty (Not Empty)) ∷
    Derived 98 (And a (Not a)) Nothing ∷
    Derived 97 (Not a) (Not Empty) ∷
    Derived 98 (Not a) (Not Nothing) ∷
    Derived 97 (Not Nothing) (Not Nothing) ∷
    Derived 97 (Not (Cat a (Not b))) b ∷
    -- what a Not or an And matches of the empty text decides whether what follows is reached
    Derived 98 (Cat (Not a) b) (Alt Empty (Cat (Not Nothing) b)) ∷
    Derived 98 (Cat (Not Empty) b) (Cat (Not Nothing) b) ∷
    Derived 98 (Cat (And (Star a) (Star b)) b) Empty ∷
    Derived 98 (Cat (And a (Star a)) b) Nothing ∷
    -- each result in normal form at once
    Derived 97 (Cat (Star (Cat a (Cat b c))) d) (Cat b (Cat c (Cat (Star (Cat a (Cat b c))) d))) ∷
    -- the vector after a text, byte by byte: W after nothing, t, to, tom and 7
    Reached W [] W ∷
    Reached W (116 ∷ []) (byte 111 ∷ Star (Range 97 122) ∷ Nothing ∷ Nothing ∷ []) ∷
    Reached W (116 ∷ 111 ∷ []) (Empty ∷ Star (Range 97 122) ∷ Nothing ∷ Nothing ∷ []) ∷
    Reached W (116 ∷ 111 ∷ 109 ∷ []) (Nothing ∷ Star (Range 97 122) ∷ Nothing ∷ Nothing ∷ []) ∷
    Reached W (55 ∷ []) (Nothing ∷ Nothing ∷ Star (Range 48 57) ∷ Nothing ∷ []) ∷
    []
