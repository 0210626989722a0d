-- Results at the limit of 255 tree nodes: which of them fit and which are Long, also where a part on the way is too long and the whole is not.
-- Each line has what is given, the result that comes out with no limit, and whether it fits; LengthsHold has the checker compute them all.
use Rattle.std.specs.Prelude.{ℕ, zero, suc, List, [], ◌∷◌}
use Rattle.meaning.specs.Re.{Re}
use Rattle.meaning.specs.Re.Re.{Nothing, Empty, Range, Cat, Alt, Star, And, Not}
use Rattle.meaning.specs.Normal.{normal}
use Rattle.meaning.specs.Derive.{deriv}
use Rattle.meaning.specs.Limited.{Fit, deriv_fit, normal_fit}
use Rattle.meaning.specs.Limited.Fit.{Long, Fits}
use Rattle.meaning.specs.Forms.{a, b, c}

-- r behind n times x, in a sequence: with one node for x, 2 · n nodes more than r
abbrev pub links : ℕ → Re → Re → Re
links zero x r = r
links (suc n) x r = Cat x (links n x r)

-- terms in normal form of 254, 255 and 256 nodes
abbrev pub nodes254 : Re
nodes254 = links 126 a (Star a)

abbrev pub nodes255 : Re
nodes255 = links 127 a a

abbrev pub nodes256 : Re
nodes256 = Star nodes255

-- terms whose nodes are counted: one of each kind, one with several kinds in it, and those at the limit
abbrev pub counted : List Re
counted = Nothing ∷ Empty ∷ Range 97 122 ∷ Cat a b ∷ Alt a b ∷ Star a ∷ And a b ∷ Not a ∷ Cat a (Alt b (Star c)) ∷ nodes254 ∷ nodes255 ∷ nodes256 ∷ []

-- a repetition of 129 nodes whose derivative by a has 256, Cat(Da, Star) being 126 + 129 + 1
abbrev pub growing : Re
growing = Star (links 63 a (Star a))

-- one of 131 nodes whose derivative by a has just 255: 123 + 131 + 1
abbrev pub choosing : Re
choosing = Star (Cat (Alt a (Cat (Star b) c)) (links 61 a a))

-- a result with no limit, and with it
pub record Told : Type 0 where
  pub result : Re
  pub limited : Fit

abbrev pub fits : Re → Told
fits r = record { result = r; limited = Fits r }

abbrev pub long : Re → Told
long r = record { result = r; limited = Long }

-- the normal form of a term; the derivative of one by a byte
pub data Length : Type 0 where
  Formed : Re → Told → Length
  Derived : ℕ → Re → Told → Length

-- what comes out, and what is due
abbrev pub came : Length → Told
came (Formed r told) = record { result = normal r; limited = normal_fit r }
came (Derived x r told) = record { result = deriv x r; limited = deriv_fit x r }

abbrev pub due : Length → Told
due (Formed r told) = told
due (Derived x r told) = told

unfoldable pub lengths : List Length
lengths =
    -- 255 nodes fit, 256 are Long
    Formed nodes254 (fits nodes254) ∷
    Formed nodes255 (fits nodes255) ∷
    Formed nodes256 (long nodes256) ∷
    Formed (Star nodes254) (fits (Star nodes254)) ∷
    -- Cat of 127 and 127 nodes, and of 127 and 128
    Formed (Cat (links 63 a a) (links 63 b b)) (fits (links 64 a (links 63 b b))) ∷
    Formed (Cat (links 63 a a) (Star (links 63 b b))) (long (links 64 a (Star (links 63 b b)))) ∷
    -- Alt of them
    Formed (Alt (links 63 a a) (links 63 b b)) (fits (Alt (links 63 a a) (links 63 b b))) ∷
    Formed (Alt (links 63 a a) (Star (links 63 b b))) (long (Alt (links 63 a a) (Star (links 63 b b)))) ∷
    -- And of them, and Not of 254 nodes and of 255
    Formed (And (links 63 a a) (links 63 b b)) (fits (And (links 63 a a) (links 63 b b))) ∷
    Formed (And (links 63 a a) (Star (links 63 b b))) (long (And (links 63 a a) (Star (links 63 b b)))) ∷
    Formed (Not nodes254) (fits (Not nodes254)) ∷
    Formed (Not nodes255) (long (Not nodes255)) ∷
    -- it is the normal form that counts, and not the term: these have 511, 257 and 256 nodes
    Formed (Alt nodes255 nodes255) (fits nodes255) ∷
    Formed (Cat Empty nodes255) (fits nodes255) ∷
    Formed (Star (Star nodes254)) (fits (Star nodes254)) ∷
    -- a part on the way is too long, though the whole is not
    Formed (Cat nodes255 Nothing) (fits Nothing) ∷
    Formed (Cat nodes256 Nothing) (long Nothing) ∷
    Formed (Cat Nothing nodes256) (long Nothing) ∷
    Formed (Cat (Cat (links 63 a a) (Star (links 63 b b))) Nothing) (long Nothing) ∷
    Formed (Cat (Cat nodes256 Nothing) a) (long Nothing) ∷
    Formed (Star (Cat nodes256 Nothing)) (long Empty) ∷
    Formed (Alt a (Cat nodes256 Nothing)) (long a) ∷
    Formed (Alt (Cat nodes256 Nothing) a) (long a) ∷
    Formed (And Nothing nodes256) (long Nothing) ∷
    Formed (And nodes256 Nothing) (long Nothing) ∷
    Formed (Not (Not nodes254)) (fits nodes254) ∷
    Formed (Not (Not nodes255)) (long nodes255) ∷
    -- derivatives: Star's, of 255 nodes and of 256
    Derived 97 choosing (fits (links 62 a choosing)) ∷
    Derived 97 growing (long (links 62 a (Cat (Star a) growing))) ∷
    -- Alt's
    Derived 97 (Alt (Cat a (links 63 b b)) (Cat a (links 63 c c))) (fits (Alt (links 63 b b) (links 63 c c))) ∷
    Derived 97 (Alt (Cat a (links 63 b b)) (Cat a (Star (links 63 c c)))) (long (Alt (links 63 b b) (Star (links 63 c c)))) ∷
    -- Cat's, where the first side does not match the empty text, and where it does
    Derived 97 (Cat a nodes255) (fits nodes255) ∷
    Derived 97 (Cat a nodes256) (long nodes256) ∷
    Derived 97 (Cat (Alt Empty a) (Cat a (links 62 b (Star b)))) (fits (Alt (Cat a (links 62 b (Star b))) (links 62 b (Star b)))) ∷
    Derived 97 (Cat (Star a) (Cat a (links 62 b b))) (long (Alt (links 62 b b) (Cat (Star a) (Cat a (links 62 b b))))) ∷
    -- a part on the way is too long, though the whole is not
    Derived 97 (Cat growing Nothing) (long Nothing) ∷
    Derived 97 (Cat (Star b) (Cat growing Nothing)) (long Nothing) ∷
    Derived 97 (Alt a (Cat growing Nothing)) (long Empty) ∷
    Derived 97 (Alt (Cat growing Nothing) a) (long Empty) ∷
    Derived 97 (Star (Cat growing Nothing)) (long Nothing) ∷
    -- both sides of an And are always worked out: a Long part is told, also where the other side is Nothing
    Derived 97 (And growing b) (long Nothing) ∷
    Derived 97 (And b growing) (long Nothing) ∷
    Derived 97 (And (Cat a (links 63 b b)) (Cat a (links 63 c c))) (fits (And (links 63 b b) (links 63 c c))) ∷
    Derived 97 (And (Cat a (links 63 b b)) (Cat a (Star (links 63 c c)))) (long (And (links 63 b b) (Star (links 63 c c)))) ∷
    -- Not's
    Derived 97 (Not (Cat a nodes254)) (fits (Not nodes254)) ∷
    Derived 97 (Not (Cat a nodes255)) (long (Not nodes255)) ∷
    Derived 97 (Not (Cat a (Not nodes254))) (fits nodes254) ∷
    -- also of a part below it that vanishes
    Derived 97 (Not (Cat a (Not nodes255))) (long nodes255) ∷
    Derived 97 (Not (And b growing)) (long (Not Nothing)) ∷
    -- Db is worked out only where the first side matches the empty text: elsewhere a Long Db is no refusal
    Derived 97 (Cat (Star b) growing) (long (links 62 a (Cat (Star a) growing))) ∷
    Derived 97 (Cat a growing) (fits growing) ∷
    []
