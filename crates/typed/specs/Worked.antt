-- Texts worked by hand, as one list, each with the bytes of its book or with its refusal by number and place; WorkedLaws has the checker compute them all.
-- They are every form and every name, bytes just outside those that may stand, each limit from both sides, and what a reader of the request could take otherwise.
use Rattle.std.specs.Prelude.{ℕ, ◌≡◌, List, [], ◌∷◌}
use Prim.Native.String.{String, ◌++◌}
use Rattle.number.specs.Refused.{row_of}
use Rattle.number.specs.Refused.Row.{row}
use Rattle.number.specs.Refused.Outcome.{gives}
use Rattle.book.specs.Sample.{w_bytes}
use Rattle.typed.specs.Calls.{book_bytes}
use Rattle.number.specs.Quoted.{quoted, again}

-- a text and the bytes of its book; a text, and the number and place of its refusal
pub data Case : Type 0 where
  Given : String → List ℕ → Case
  Refused : String → ℕ → ℕ → Case

abbrev pub Holds : Case → Type 0
Holds (Given text bytes) = book_bytes (quoted text) ≡ gives bytes
Holds (Refused text n p) = row_of (book_bytes (quoted text)) ≡ row n p

abbrev pub EachHolds : List Case → Type 0
EachHolds [] = Unit
EachHolds (x ∷ xs) = Holds x × EachHolds xs

unfoldable pub cases : List Case
cases =
    -- right texts: a letter; the sample book W; grouping from the left; marks one after the other
    Given "1:a\n" (0x01 ∷ 0x01 ∷ 0x01 ∷ 0x01 ∷ 0x02 ∷ 0x61 ∷ 0x61 ∷ []) ∷
    Given "1:to\n2:<lower>+\n3:<digit>+\n0: \n" w_bytes ∷
    Given "1:ab|c|d\n" (0x01 ∷ 0x01 ∷ 0x01 ∷ 0x07 ∷ 0x02 ∷ 0x61 ∷ 0x61 ∷ 0x02 ∷ 0x62 ∷ 0x62 ∷ 0x03 ∷ 0x02 ∷ 0x63 ∷ 0x63 ∷ 0x04 ∷ 0x02 ∷ 0x64 ∷ 0x64 ∷ 0x04 ∷ []) ∷
    Given "1:abc\n" (0x01 ∷ 0x01 ∷ 0x01 ∷ 0x05 ∷ 0x02 ∷ 0x61 ∷ 0x61 ∷ 0x02 ∷ 0x62 ∷ 0x62 ∷ 0x03 ∷ 0x02 ∷ 0x63 ∷ 0x63 ∷ 0x03 ∷ []) ∷
    Given "1:a|bc\n" (0x01 ∷ 0x01 ∷ 0x01 ∷ 0x05 ∷ 0x02 ∷ 0x61 ∷ 0x61 ∷ 0x02 ∷ 0x62 ∷ 0x62 ∷ 0x02 ∷ 0x63 ∷ 0x63 ∷ 0x03 ∷ 0x04 ∷ []) ∷
    Given "1:a(b|c)*\n" (0x01 ∷ 0x01 ∷ 0x01 ∷ 0x06 ∷ 0x02 ∷ 0x61 ∷ 0x61 ∷ 0x02 ∷ 0x62 ∷ 0x62 ∷ 0x02 ∷ 0x63 ∷ 0x63 ∷ 0x04 ∷ 0x05 ∷ 0x03 ∷ []) ∷
    Given "1:a*+?\n" (0x01 ∷ 0x01 ∷ 0x01 ∷ 0x08 ∷ 0x02 ∷ 0x61 ∷ 0x61 ∷ 0x05 ∷ 0x02 ∷ 0x61 ∷ 0x61 ∷ 0x05 ∷ 0x05 ∷ 0x03 ∷ 0x01 ∷ 0x04 ∷ []) ∷
    -- the first and the last letter and digit of each kind, and a space
    Given "1:AZaz09 \n" (0x01 ∷ 0x01 ∷ 0x01 ∷ 0x0D ∷ 0x02 ∷ 0x41 ∷ 0x41 ∷ 0x02 ∷ 0x5A ∷ 0x5A ∷ 0x03 ∷ 0x02 ∷ 0x61 ∷ 0x61 ∷ 0x03 ∷ 0x02 ∷ 0x7A ∷ 0x7A ∷ 0x03 ∷ 0x02 ∷ 0x30 ∷ 0x30 ∷ 0x03 ∷ 0x02 ∷ 0x39 ∷ 0x39 ∷ 0x03 ∷ 0x02 ∷ 0x20 ∷ 0x20 ∷ 0x03 ∷ []) ∷
    -- each of the twelve sets by its name
    Given "1:<alnum>\n2:<alpha>\n3:<blank>\n4:<cntrl>\n5:<digit>\n6:<graph>\n7:<lower>\n8:<print>\n9:<punct>\n10:<space>\n11:<upper>\n12:<xdigit>\n"
    (0x01 ∷ 0x0C ∷
    0x01 ∷ 0x05 ∷ 0x02 ∷ 0x30 ∷ 0x39 ∷ 0x02 ∷ 0x41 ∷ 0x5A ∷ 0x04 ∷ 0x02 ∷ 0x61 ∷ 0x7A ∷ 0x04 ∷
    0x02 ∷ 0x03 ∷ 0x02 ∷ 0x41 ∷ 0x5A ∷ 0x02 ∷ 0x61 ∷ 0x7A ∷ 0x04 ∷
    0x03 ∷ 0x03 ∷ 0x02 ∷ 0x09 ∷ 0x09 ∷ 0x02 ∷ 0x20 ∷ 0x20 ∷ 0x04 ∷
    0x04 ∷ 0x03 ∷ 0x02 ∷ 0x00 ∷ 0x1F ∷ 0x02 ∷ 0x7F ∷ 0x7F ∷ 0x04 ∷
    0x05 ∷ 0x01 ∷ 0x02 ∷ 0x30 ∷ 0x39 ∷
    0x06 ∷ 0x01 ∷ 0x02 ∷ 0x21 ∷ 0x7E ∷
    0x07 ∷ 0x01 ∷ 0x02 ∷ 0x61 ∷ 0x7A ∷
    0x08 ∷ 0x01 ∷ 0x02 ∷ 0x20 ∷ 0x7E ∷
    0x09 ∷ 0x07 ∷ 0x02 ∷ 0x21 ∷ 0x2F ∷ 0x02 ∷ 0x3A ∷ 0x40 ∷ 0x04 ∷ 0x02 ∷ 0x5B ∷ 0x60 ∷ 0x04 ∷ 0x02 ∷ 0x7B ∷ 0x7E ∷ 0x04 ∷
    0x0A ∷ 0x03 ∷ 0x02 ∷ 0x09 ∷ 0x0D ∷ 0x02 ∷ 0x20 ∷ 0x20 ∷ 0x04 ∷
    0x0B ∷ 0x01 ∷ 0x02 ∷ 0x41 ∷ 0x5A ∷
    0x0C ∷ 0x05 ∷ 0x02 ∷ 0x30 ∷ 0x39 ∷ 0x02 ∷ 0x41 ∷ 0x46 ∷ 0x04 ∷ 0x02 ∷ 0x61 ∷ 0x66 ∷ 0x04 ∷ []) ∷
    -- a set from the left; a dot and an escaped newline; hex digits of either case
    Given "1:<punct>\n" (0x01 ∷ 0x01 ∷ 0x01 ∷ 0x07 ∷ 0x02 ∷ 0x21 ∷ 0x2F ∷ 0x02 ∷ 0x3A ∷ 0x40 ∷ 0x04 ∷ 0x02 ∷ 0x5B ∷ 0x60 ∷ 0x04 ∷ 0x02 ∷ 0x7B ∷ 0x7E ∷ 0x04 ∷ []) ∷
    Given "1:<digit><blank>\n" (0x01 ∷ 0x01 ∷ 0x01 ∷ 0x05 ∷ 0x02 ∷ 0x30 ∷ 0x39 ∷ 0x02 ∷ 0x09 ∷ 0x09 ∷ 0x02 ∷ 0x20 ∷ 0x20 ∷ 0x04 ∷ 0x03 ∷ []) ∷
    Given "1:.\\0A\n" (0x01 ∷ 0x01 ∷ 0x01 ∷ 0x03 ∷ 0x02 ∷ 0x00 ∷ 0xFF ∷ 0x01 ∷ 0x02 ∷ 0x0A ∷ 0x0A ∷ 0x03 ∷ []) ∷
    Given "1:\\fF\\Ff\n" (0x01 ∷ 0x01 ∷ 0x01 ∷ 0x03 ∷ 0x02 ∷ 0xFF ∷ 0x01 ∷ 0xFF ∷ 0x01 ∷ 0x02 ∷ 0xFF ∷ 0x01 ∷ 0xFF ∷ 0x01 ∷ 0x03 ∷ []) ∷
    Given "1:\\9a\n" (0x01 ∷ 0x01 ∷ 0x01 ∷ 0x01 ∷ 0x02 ∷ 0x9A ∷ 0x01 ∷ 0x9A ∷ 0x01 ∷ []) ∷
    -- empty parentheses, also within others; 32 deep
    Given "1:()\n" (0x01 ∷ 0x01 ∷ 0x01 ∷ 0x01 ∷ 0x01 ∷ []) ∷
    Given "1:(())\n" (0x01 ∷ 0x01 ∷ 0x01 ∷ 0x01 ∷ 0x01 ∷ []) ∷
    Given "1:()*|a\n" (0x01 ∷ 0x01 ∷ 0x01 ∷ 0x04 ∷ 0x01 ∷ 0x05 ∷ 0x02 ∷ 0x61 ∷ 0x61 ∷ 0x04 ∷ []) ∷
    Given ("7:" ++ (again 32 "(" ++ ("a" ++ (again 32 ")" ++ "\n")))) (0x01 ∷ 0x01 ∷ 0x07 ∷ 0x01 ∷ 0x02 ∷ 0x61 ∷ 0x61 ∷ []) ∷
    Given ("7:" ++ (again 32 "(" ++ (again 32 ")" ++ "\n"))) (0x01 ∷ 0x01 ∷ 0x07 ∷ 0x01 ∷ 0x01 ∷ []) ∷
    -- the largest kind
    Given "16383:a\n" (0x01 ∷ 0x01 ∷ 0xFF ∷ 0x7F ∷ 0x01 ∷ 0x02 ∷ 0x61 ∷ 0x61 ∷ []) ∷
    -- a name: the byte with which no name goes on
    Refused "1:<alpx\n" 14 6 ∷
    Refused "1:<alph>\n" 14 7 ∷
    Refused "1:<>\n" 14 3 ∷
    Refused "1:<Alpha>\n" 14 3 ∷
    Refused "1:<alphaa>\n" 14 8 ∷
    -- a kind: no leading zero, no sign, no space, and some digit
    Refused "00:a\n" 14 1 ∷
    Refused "01:a\n" 14 1 ∷
    Refused ":a\n" 14 0 ∷
    Refused " 1:a\n" 14 0 ∷
    Refused "1 :a\n" 14 1 ∷
    Refused "-1:a\n" 14 0 ∷
    Refused "a:a\n" 14 0 ∷
    -- a blank line, first and later; a return before the newline
    Refused "\n" 14 0 ∷
    Refused "1:a\n\n" 14 4 ∷
    Refused "1:a\r\n" 14 3 ∷
    -- a text that stops too early is wrong at its end
    Refused "0" 14 1 ∷
    Refused "1" 14 1 ∷
    Refused "1:" 14 2 ∷
    Refused "1:a" 14 3 ∷
    Refused "1:a|" 14 4 ∷
    Refused "1:(a" 14 4 ∷
    Refused "1:(a)" 14 5 ∷
    Refused "1:\\" 14 3 ∷
    Refused "1:\\4" 14 4 ∷
    Refused "1:<alpha" 14 8 ∷
    Refused "1:a\n2" 14 5 ∷
    -- the 33rd open parenthesis, whether it holds something or not
    Refused ("1:" ++ (again 33 "(" ++ ("a" ++ (again 33 ")" ++ "\n")))) 14 34 ∷
    Refused ("1:" ++ (again 33 "(" ++ (again 33 ")" ++ "\n"))) 14 34 ∷
    -- an empty part, a mark on nothing, a parenthesis too many
    Refused "1:\n" 14 2 ∷
    Refused "1:a|\n" 14 4 ∷
    Refused "1:|a\n" 14 2 ∷
    Refused "1:a||b\n" 14 4 ∷
    Refused "1:(a|)\n" 14 5 ∷
    Refused "1:(|a)\n" 14 3 ∷
    Refused "1:*\n" 14 2 ∷
    Refused "1:(*)\n" 14 3 ∷
    Refused "1:a|+\n" 14 4 ∷
    Refused "1:a)\n" 14 3 ∷
    -- half an escape, and bytes that are no hex digit or not bare, those just outside among them
    Refused "1:\\g0\n" 14 3 ∷
    Refused "1:\\0g\n" 14 4 ∷
    Refused "1:\\/0\n" 14 3 ∷
    Refused "1:\\:0\n" 14 3 ∷
    Refused "1:\\@0\n" 14 3 ∷
    Refused "1:\\G0\n" 14 3 ∷
    Refused "1:\\`0\n" 14 3 ∷
    Refused "1:\\0\n" 14 4 ∷
    Refused "1:_\n" 14 2 ∷
    Refused "1:a-b\n" 14 3 ∷
    Refused "1:a:b\n" 14 3 ∷
    Refused "1:>\n" 14 2 ∷
    Refused "1:\u{1f}\n" 14 2 ∷
    Refused "1:!\n" 14 2 ∷
    Refused "1:/\n" 14 2 ∷
    Refused "1::\n" 14 2 ∷
    Refused "1:@\n" 14 2 ∷
    Refused "1:[\n" 14 2 ∷
    Refused "1:`\n" 14 2 ∷
    Refused "1:{\n" 14 2 ∷
    Refused "1:\u{80}\n" 14 2 ∷
    Refused "1:ÿ\n" 14 2 ∷
    -- no line at all; a kind too large, on a later line and without end
    Refused "" 3 0 ∷
    Refused "16384:a\n" 3 0 ∷
    Refused "1:a\n70000:b\n" 3 4 ∷
    Refused "999999999999999999999999:a\n" 3 0 ∷
    -- nodes: each + doubles what stands before it and adds two, so eight make 766; 512 in all are in range, and one more is not
    Refused "1:a++++++++\n" 3 0 ∷
    Refused "1:a+++++++++\n" 3 0 ∷
    Refused "1:a+++++++\n2:a++++++\n" 3 11 ∷
    Refused "1:a+++++++\n2:a+++++\n3:a+++\n4:a++\n5:a+\n6:a\n" 3 38 ∷
    -- the 33rd rule
    Refused (again 33 "1:a\n") 3 128 ∷
    -- out of range early, but a wrong byte later
    Refused "70000:a\n2:)\n" 14 10 ∷
    Refused (again 33 "1:a\n" ++ "2") 14 133 ∷
    []
