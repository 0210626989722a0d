-- The textbook's clauses on texts, one after the other, as lines of the worked list's kind: what each kind of expression matches,
-- which of several rules names a text, and the first word. Labels are 1 plus a rule, or 0; 97 is the letter a. SampleHolds proves them all.
use Rattle.std.specs.Prelude.{List, [], ◌∷◌}
use Rattle.meaning.specs.Re.{Re}
use Rattle.meaning.specs.Re.Re.{Nothing, Empty, Range, Cat, Alt, Star, And, Not}
use Rattle.meaning.specs.Words.Found.{Stuck, Word}
use Rattle.meaning.specs.Sample.{byte, one_or_more, Line}
use Rattle.meaning.specs.Sample.Line.{Named, Begins}

-- any text; a note from /* to the first */ behind it: between them stands no */
abbrev pub anything : Re
anything = Star (Range 0 255)

abbrev pub note : Re
note = Cat (byte 47) (Cat (byte 42) (Cat (Not (Cat anything (Cat (byte 42) (Cat (byte 47) anything)))) (Cat (byte 42) (byte 47))))

unfoldable pub clauses : List Line
clauses =
    -- Nothing matches no text, Empty the empty one alone
    Named (Nothing ∷ []) [] 0 ∷
    Named (Nothing ∷ []) (97 ∷ []) 0 ∷
    Named (Empty ∷ []) [] 1 ∷
    Named (Empty ∷ []) (97 ∷ []) 0 ∷
    -- a Range matches one byte, lo and hi and what is between them
    Named (Range 98 100 ∷ []) [] 0 ∷
    Named (Range 98 100 ∷ []) (97 ∷ []) 0 ∷
    Named (Range 98 100 ∷ []) (98 ∷ []) 1 ∷
    Named (Range 98 100 ∷ []) (99 ∷ []) 1 ∷
    Named (Range 98 100 ∷ []) (100 ∷ []) 1 ∷
    Named (Range 98 100 ∷ []) (101 ∷ []) 0 ∷
    Named (Range 98 100 ∷ []) (98 ∷ 98 ∷ []) 0 ∷
    Named (Range 0 255 ∷ []) (0 ∷ []) 1 ∷
    Named (Range 0 255 ∷ []) (255 ∷ []) 1 ∷
    -- Cat: a text of the first, then one of the second
    Named (Cat (byte 97) (byte 98) ∷ []) (97 ∷ 98 ∷ []) 1 ∷
    Named (Cat (byte 97) (byte 98) ∷ []) (98 ∷ 97 ∷ []) 0 ∷
    Named (Cat (byte 97) (byte 98) ∷ []) (97 ∷ []) 0 ∷
    Named (Cat (byte 97) (byte 98) ∷ []) (98 ∷ []) 0 ∷
    Named (Cat (byte 97) (byte 98) ∷ []) (97 ∷ 98 ∷ 98 ∷ []) 0 ∷
    Named (Cat (Alt Empty (byte 97)) (byte 98) ∷ []) (98 ∷ []) 1 ∷
    Named (Cat (Star (byte 97)) (byte 97) ∷ []) (97 ∷ 97 ∷ []) 1 ∷
    -- Alt: a text of either
    Named (Alt (byte 97) (Cat (byte 98) (byte 99)) ∷ []) (97 ∷ []) 1 ∷
    Named (Alt (byte 97) (Cat (byte 98) (byte 99)) ∷ []) (98 ∷ 99 ∷ []) 1 ∷
    Named (Alt (byte 97) (Cat (byte 98) (byte 99)) ∷ []) (97 ∷ 99 ∷ []) 0 ∷
    Named (Alt (byte 97) (Cat (byte 98) (byte 99)) ∷ []) [] 0 ∷
    -- Star: zero or more texts, joined
    Named (Star (Cat (byte 97) (byte 98)) ∷ []) [] 1 ∷
    Named (Star (Cat (byte 97) (byte 98)) ∷ []) (97 ∷ 98 ∷ []) 1 ∷
    Named (Star (Cat (byte 97) (byte 98)) ∷ []) (97 ∷ 98 ∷ 97 ∷ 98 ∷ []) 1 ∷
    Named (Star (Cat (byte 97) (byte 98)) ∷ []) (97 ∷ 98 ∷ 97 ∷ []) 0 ∷
    Named (Star Nothing ∷ []) [] 1 ∷
    Named (Star Nothing ∷ []) (97 ∷ []) 0 ∷
    Named (Star Empty ∷ []) [] 1 ∷
    Named (Star Empty ∷ []) (97 ∷ []) 0 ∷
    -- And: texts of both
    Named (And (Range 97 99) (Range 98 100) ∷ []) (98 ∷ []) 1 ∷
    Named (And (Range 97 99) (Range 98 100) ∷ []) (97 ∷ []) 0 ∷
    Named (And (Range 97 99) (Range 98 100) ∷ []) (100 ∷ []) 0 ∷
    Named (And (Star (byte 97)) (Star (byte 98)) ∷ []) [] 1 ∷
    Named (And (Star (byte 97)) (byte 97) ∷ []) [] 0 ∷
    Named (And (byte 97) (byte 97) ∷ []) (97 ∷ []) 1 ∷
    Named (And (byte 97) Nothing ∷ []) (97 ∷ []) 0 ∷
    -- Not: all texts that its term does not match, of any bytes and of any length
    Named (Not (byte 97) ∷ []) (97 ∷ []) 0 ∷
    Named (Not (byte 97) ∷ []) [] 1 ∷
    Named (Not (byte 97) ∷ []) (0 ∷ []) 1 ∷
    Named (Not (byte 97) ∷ []) (255 ∷ []) 1 ∷
    Named (Not (byte 97) ∷ []) (97 ∷ 97 ∷ []) 1 ∷
    Named (Not Nothing ∷ []) (0 ∷ 255 ∷ 97 ∷ []) 1 ∷
    Named (Not Empty ∷ []) [] 0 ∷
    Named (Not Empty ∷ []) (97 ∷ []) 1 ∷
    Named (Not (Not (byte 97)) ∷ []) (97 ∷ []) 1 ∷
    Named (Not (Not (byte 97)) ∷ []) (98 ∷ []) 0 ∷
    Named (And (byte 97) (Not (byte 97)) ∷ []) (97 ∷ []) 0 ∷
    Named (And (Range 97 122) (Not (byte 98)) ∷ []) (98 ∷ []) 0 ∷
    Named (And (Range 97 122) (Not (byte 98)) ∷ []) (99 ∷ []) 1 ∷
    -- of several rules the first that matches; of none 0
    Named (byte 97 ∷ byte 97 ∷ []) (97 ∷ []) 1 ∷
    Named (byte 98 ∷ Range 97 122 ∷ byte 97 ∷ []) (97 ∷ []) 2 ∷
    Named (Nothing ∷ Empty ∷ byte 97 ∷ []) (97 ∷ []) 3 ∷
    Named (Star (byte 97) ∷ Star (byte 98) ∷ []) [] 1 ∷
    Named (Star (byte 97) ∷ Star (byte 98) ∷ []) (98 ∷ []) 2 ∷
    Named (byte 97 ∷ byte 98 ∷ []) (99 ∷ []) 0 ∷
    Named [] [] 0 ∷
    -- the first word: back to the last labelled place, with rules 1 and 1.1
    Begins (byte 49 ∷ Cat (byte 49) (Cat (byte 46) (byte 49)) ∷ []) (49 ∷ 46 ∷ 46 ∷ []) (Word 1 0) ∷
    Begins (byte 49 ∷ Cat (byte 49) (Cat (byte 46) (byte 49)) ∷ []) (49 ∷ 46 ∷ 49 ∷ []) (Word 3 1) ∷
    -- the longest decides, then the earlier rule: if and letters
    Begins (Cat (byte 105) (byte 102) ∷ one_or_more 97 122 ∷ []) (105 ∷ 102 ∷ 120 ∷ []) (Word 3 1) ∷
    Begins (Cat (byte 105) (byte 102) ∷ one_or_more 97 122 ∷ []) (105 ∷ 102 ∷ 32 ∷ []) (Word 2 0) ∷
    -- no word is empty, even where a rule matches the empty text
    Begins (Star (byte 97) ∷ []) (98 ∷ []) Stuck ∷
    Begins (Star (byte 97) ∷ []) (97 ∷ 97 ∷ 98 ∷ []) (Word 2 0) ∷
    Begins (Empty ∷ []) (97 ∷ []) Stuck ∷
    Begins (Star (byte 97) ∷ []) [] Stuck ∷
    -- a note ends at the first closing sign: /**/, then a longer one with signs before it that close nothing; unfinished there is none
    Begins (note ∷ []) (47 ∷ 42 ∷ 42 ∷ 47 ∷ 42 ∷ 47 ∷ []) (Word 4 0) ∷
    Begins (note ∷ []) (47 ∷ 42 ∷ 42 ∷ 97 ∷ 47 ∷ 42 ∷ 42 ∷ 47 ∷ 47 ∷ []) (Word 8 0) ∷
    Begins (note ∷ []) (47 ∷ 42 ∷ 47 ∷ []) Stuck ∷
    Begins (note ∷ []) (47 ∷ 42 ∷ 97 ∷ 42 ∷ []) Stuck ∷
    []
