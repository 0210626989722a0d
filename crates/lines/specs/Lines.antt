-- The lines that programs print, as lists of bytes: single spaces, decimal numbers, one newline at the end of each.
-- Document 01 shows them where it describes the programs cut and compare.
use Rattle.std.specs.Prelude.{ℕ, List, [], ◌∷◌, ◌++◌}
use Rattle.number.specs.declared.Refusal.{Refusal}
use Rattle.number.specs.Refused.{number, place}
use Rattle.lines.specs.Digits.{decimal, hex}

abbrev pub space : ℕ
space = 32

abbrev pub newline : ℕ
newline = 10

-- the words that lines begin with, each with the space after it: done, stuck, refused, differs
abbrev pub done_word : List ℕ
done_word = 100 ∷ 111 ∷ 110 ∷ 101 ∷ space ∷ []

abbrev pub stuck_word : List ℕ
stuck_word = 115 ∷ 116 ∷ 117 ∷ 99 ∷ 107 ∷ space ∷ []

abbrev pub refused_word : List ℕ
refused_word = 114 ∷ 101 ∷ 102 ∷ 117 ∷ 115 ∷ 101 ∷ 100 ∷ space ∷ []

abbrev pub differs_word : List ℕ
differs_word = 100 ∷ 105 ∷ 102 ∷ 102 ∷ 101 ∷ 114 ∷ 115 ∷ space ∷ []

-- a number, and the byte that ends it
unfoldable pub item : ℕ → ℕ → List ℕ
item n end = decimal n ++ (end ∷ [])

-- a word: start, length, rule, kind
unfoldable pub word_line : ℕ → ℕ → ℕ → ℕ → List ℕ
word_line start len rule kind = item start space ++ (item len space ++ (item rule space ++ item kind newline))

-- the last line of a cut
unfoldable pub done_line : ℕ → List ℕ
done_line count = done_word ++ item count newline

unfoldable pub stuck_line : ℕ → List ℕ
stuck_line at = stuck_word ++ item at newline

-- any refusal, by its number and its place
unfoldable pub refused_line : Refusal → List ℕ
refused_line r = refused_word ++ (item (number r) space ++ item (place r) newline)

-- the answers of a comparison: same; or differs with the text's length and both labels, and then the text
abbrev pub same_line : List ℕ
same_line = 115 ∷ 97 ∷ 109 ∷ 101 ∷ newline ∷ []

unfoldable pub differs_line : ℕ → ℕ → ℕ → List ℕ
differs_line len book sheet = differs_word ++ (item len space ++ (item book space ++ item sheet newline))

unfoldable pub hex_line : List ℕ → List ℕ
hex_line [] = newline ∷ []
hex_line (b ∷ text) = hex b ++ hex_line text

-- the room that a line is given, whatever numbers of 64 bits stand in it (specs/LineLaws.antt); the hex line's goes by its text
abbrev pub line_room : ℕ
line_room = 100

abbrev pub item_room : ℕ
item_room = 21
