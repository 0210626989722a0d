-- Advice on six texts, as people see it: a name that no set has, a text that ends too early, one that starts wrongly, bytes that cannot be printed and two that just can, no rule, and too large a kind.
-- SampleLaws has the checker compute each from the definitions, byte by byte, so a definition that says something else is refused there.
use Prim.Native.String.{String, ◌++◌}
use Rattle.std.specs.Prelude.{◌≡◌, List, [], ◌∷◌}
use Rattle.number.specs.declared.Refusal.{Refusal}
use Rattle.number.specs.declared.Refusal.TheVariants.{Range, Typed}
use Rattle.number.specs.Quoted.{quoted}
use Rattle.advised.specs.Advice.{advice_of}

-- a text, its refusal, and what people are told of it
pub data Case : Type 0 where
  Advised : String → Refusal → String → Case

abbrev pub Holds : Case → Type 0
Holds (Advised text r advice) = advice_of (quoted text) r ≡ quoted advice

abbrev pub EachHolds : List Case → Type 0
EachHolds [] = Unit
EachHolds (x ∷ xs) = Holds x × EachHolds xs

unfoldable pub cases : List Case
cases =
    Advised "1:a\n2:<alpx>+\n" (Typed 10) (
    "words.rules, line 2, column 7: no rule goes on with this byte.\n" ++
    ("2:<alpx>+\n" ++
    ("      ^\n" ++
    "here could stand: h\n"))
    ) ∷
    Advised "1:a" (Typed 3) (
    "words.rules, line 1, column 4: the text ends here, but the rule does not.\n" ++
    ("1:a\n" ++
    ("   ^\n" ++
    "here could stand: newline space ( * + . 0-9 < ? A-Z \\ a-z |\n"))
    ) ∷
    Advised "1:a\n\tb" (Typed 4) (
    "words.rules, line 2, column 1: no rule goes on with this byte.\n" ++
    ("?b\n" ++
    ("^\n" ++
    "here could stand: 0-9\n"))
    ) ∷
    Advised "1:a\n2:b\n3:c~\u{1f}\u{7f}ÿ d\n" (Typed 11) (
    "words.rules, line 3, column 4: no rule goes on with this byte.\n" ++
    ("3:c~??? d\n" ++
    ("   ^\n" ++
    "here could stand: newline space ( * + . 0-9 < ? A-Z \\ a-z |\n"))
    ) ∷
    Advised "" (Range 0) "words.rules has no rule.\n" ∷
    Advised "1:a\n16384:b\n" (Range 4) (
    "words.rules, line 2, column 1: with this line there are more than 32 rules, or its kind is above 16383, or the nodes are more than 512 in all.\n" ++
    "16384:b\n"
    ) ∷
    []
