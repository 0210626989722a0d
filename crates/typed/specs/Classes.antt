-- Which bytes a set holds; and which bytes POSIX gives each class in the POSIX locale, told without the ranges of Sets.
-- Also what it is for ranges to be the fewest: no fewer hold the same bytes. proofs/Main.antt has the theorems.
use Rattle.std.specs.Prelude.{ℕ, ◌+◌, ◌≤◌, ◌≡◌, Bool, true, false, not, ◌&&◌, ◌||◌, List, [], ◌∷◌, ◌↔◌, leb, length}
use Prim.Native.String.{String}
use Rattle.meaning.specs.Re.{Text}
use Rattle.book.specs.Book.{listed}
use Rattle.typed.specs.Sets.{Set, Span, spans}
use Rattle.typed.specs.Sets.Set.{alnum, alpha, blank, cntrl, digit, graph, lower, print, punct, space, upper, xdigit}
use Rattle.typed.specs.Sets.Span.{span}
use Rattle.typed.specs.Spells.{between}
use Rattle.number.specs.Quoted.{quoted}

-- one of the ranges holds the byte
unfoldable pub held : List Span → ℕ → Bool
held [] c = false
held (span lo hi ∷ more) c = between lo hi c || held more c

unfoldable pub holds : Set → ℕ → Bool
holds s c = held (spans s) c

-- one byte that the ranges hold
pub record ByteOf (ss : List Span) (w : Text) : Type 0 where
  pub byte : ℕ
  pub only : w ≡ byte ∷ []
  pub within : held ss byte ≡ true

-- the classes as POSIX has them: letters, digits, punctuation, blanks and spaces by listing their characters, the others by those;
-- a space is a space, a form feed, a newline, a return, a tab or a vertical tab, and a control character is any up to 127 that is not printed
unfoldable pub is_upper : ℕ → Bool
is_upper c = listed (quoted "ABCDEFGHIJKLMNOPQRSTUVWXYZ") c

unfoldable pub is_lower : ℕ → Bool
is_lower c = listed (quoted "abcdefghijklmnopqrstuvwxyz") c

unfoldable pub is_digit : ℕ → Bool
is_digit c = listed (quoted "0123456789") c

unfoldable pub is_punct : ℕ → Bool
is_punct c = listed (quoted "!\"#$%&'()*+,-./:;<=>?@[\\]^_`{|}~") c

unfoldable pub is_alpha : ℕ → Bool
is_alpha c = is_upper c || is_lower c

unfoldable pub is_alnum : ℕ → Bool
is_alnum c = is_alpha c || is_digit c

unfoldable pub is_graph : ℕ → Bool
is_graph c = is_alnum c || is_punct c

unfoldable pub is_print : ℕ → Bool
is_print c = is_graph c || listed (quoted " ") c

unfoldable pub said : Set → ℕ → Bool
said upper c = is_upper c
said lower c = is_lower c
said digit c = is_digit c
said punct c = is_punct c
said alpha c = is_alpha c
said alnum c = is_alnum c
said graph c = is_graph c
said print c = is_print c
said cntrl c = leb c 127 && not (is_print c)
said blank c = listed (quoted "\t ") c
said space c = listed (quoted " \u{c}\n\r\t\u{b}") c
said xdigit c = listed (quoted "0123456789ABCDEFabcdef") c

-- ranges that rise, from b on, with a byte between each and the next that neither holds, up to 127
abbrev pub Rising : ℕ → List Span → Type 0
Rising b [] = Unit
Rising b (span lo hi ∷ more) = (b ≤ lo) × (lo ≤ hi) × (hi ≤ 127) × Rising (hi + 2) more

-- no fewer ranges hold the same bytes
abbrev pub Fewest : List Span → Type 0
Fewest ss = (ts : List Span) → ((c : ℕ) → (held ts c ≡ true) ↔ (held ss c ≡ true)) → length ss ≤ length ts

-- a set is in a list of them
pub data In (s : Set) : List Set → Type 0 where
  first : {ss : List Set} → In s (s ∷ ss)
  later : {r : Set} {ss : List Set} → In s ss → In s (r ∷ ss)

-- how many ranges some sets have together
unfoldable pub spans_of : List Set → ℕ
spans_of [] = 0
spans_of (s ∷ ss) = length (spans s) + spans_of ss

-- the classes' names, as they are typed between the brackets
unfoldable pub title : Set → String
title alnum = "alnum"
title alpha = "alpha"
title blank = "blank"
title cntrl = "cntrl"
title digit = "digit"
title graph = "graph"
title lower = "lower"
title print = "print"
title punct = "punct"
title space = "space"
title upper = "upper"
title xdigit = "xdigit"
