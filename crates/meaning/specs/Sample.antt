-- The sample book W as a row of rules, and the worked lines P1 to P12 of document 01 as one list.
-- What a line claims is said by the textbook: by Names, by the first-word relation, by write_number; SampleHolds proves them all.
use Rattle.std.specs.Prelude.{ℕ, ◌≡◌, List, [], ◌∷◌}
use Rattle.number.specs.Numbers.{write_number}
use Rattle.meaning.specs.Re.{Re, Text}
use Rattle.meaning.specs.Re.Re.{Range, Cat, Star}
use Rattle.meaning.specs.Rules.{Names}
use Rattle.meaning.specs.Words.{Found, FirstWord}
use Rattle.meaning.specs.Words.Found.{Stuck, Word}

-- one byte; one or more bytes of a range
abbrev pub byte : ℕ → Re
byte c = Range c c

abbrev pub one_or_more : ℕ → ℕ → Re
one_or_more lo hi = Cat (Range lo hi) (Star (Range lo hi))

-- the word to; letters a to z; digits 0 to 9; a space
abbrev pub W : List Re
W = Cat (byte 116) (byte 111) ∷ one_or_more 97 122 ∷ one_or_more 48 57 ∷ byte 32 ∷ []

-- by a row of rules a text has a label, or it begins with a word; a number is written so
pub data Line : Type 0 where
  Named : List Re → Text → ℕ → Line
  Begins : List Re → Text → Found → Line
  Written : ℕ → List ℕ → Line

abbrev pub Holds : Line → Type 0
Holds (Named rs text l) = Names rs text l
Holds (Begins rs text found) = FirstWord rs text found
Holds (Written n bytes) = write_number n ≡ bytes

abbrev pub EachHolds : List Line → Type 0
EachHolds [] = Unit
EachHolds (line ∷ rest) = Holds line × EachHolds rest

abbrev pub t : ℕ
t = 116

abbrev pub o : ℕ
o = 111

abbrev pub m : ℕ
m = 109

abbrev pub seven : ℕ
seven = 55

abbrev pub space : ℕ
space = 32

abbrev pub hash : ℕ
hash = 35

unfoldable pub lines : List Line
lines =
    Named W (t ∷ o ∷ []) 1 ∷  -- P1: to is rule 0
    Named W (t ∷ o ∷ m ∷ []) 2 ∷  -- P2: tom is rule 1
    Named W (t ∷ []) 2 ∷  -- P3: t is rule 1
    Named W (seven ∷ []) 3 ∷  -- P4: 7 is rule 2
    Named W (space ∷ []) 4 ∷  -- P5: a space is rule 3
    Named W [] 0 ∷  -- P6: the empty text is none
    Named W (t ∷ seven ∷ []) 0 ∷  -- P7: t7 is none
    Begins W (t ∷ seven ∷ []) (Word 1 1) ∷  -- P8: t7 begins with a word of length 1, rule 1
    Begins W (t ∷ o ∷ m ∷ space ∷ seven ∷ []) (Word 3 1) ∷  -- P9: tom 7 with one of length 3, rule 1
    Begins W (hash ∷ []) Stuck ∷  -- P10: # with none
    Written 128 (0x80 ∷ 0x01 ∷ []) ∷  -- P11
    Written 300 (0xAC ∷ 0x02 ∷ []) ∷  -- P12
    []
