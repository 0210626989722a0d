-- The twelve sets that are typed by name: how each is spelled, and its bytes as ranges.
-- They are the POSIX character classes in the POSIX locale, bytes up to 127; each is its fewest ranges, rising.
use Rattle.std.specs.Prelude.{ℕ, List, [], ◌∷◌}
use Rattle.meaning.specs.Re.{Text}

pub data Set : Type 0 where
  alnum : Set
  alpha : Set
  blank : Set
  cntrl : Set
  digit : Set
  graph : Set
  lower : Set
  print : Set
  punct : Set
  space : Set
  upper : Set
  xdigit : Set

abbrev pub sets : List Set
sets = alnum ∷ alpha ∷ blank ∷ cntrl ∷ digit ∷ graph ∷ lower ∷ print ∷ punct ∷ space ∷ upper ∷ xdigit ∷ []

-- the letters of its name, and the bracket that ends it
unfoldable pub named : Set → Text
named alnum = 97 ∷ 108 ∷ 110 ∷ 117 ∷ 109 ∷ 62 ∷ []
named alpha = 97 ∷ 108 ∷ 112 ∷ 104 ∷ 97 ∷ 62 ∷ []
named blank = 98 ∷ 108 ∷ 97 ∷ 110 ∷ 107 ∷ 62 ∷ []
named cntrl = 99 ∷ 110 ∷ 116 ∷ 114 ∷ 108 ∷ 62 ∷ []
named digit = 100 ∷ 105 ∷ 103 ∷ 105 ∷ 116 ∷ 62 ∷ []
named graph = 103 ∷ 114 ∷ 97 ∷ 112 ∷ 104 ∷ 62 ∷ []
named lower = 108 ∷ 111 ∷ 119 ∷ 101 ∷ 114 ∷ 62 ∷ []
named print = 112 ∷ 114 ∷ 105 ∷ 110 ∷ 116 ∷ 62 ∷ []
named punct = 112 ∷ 117 ∷ 110 ∷ 99 ∷ 116 ∷ 62 ∷ []
named space = 115 ∷ 112 ∷ 97 ∷ 99 ∷ 101 ∷ 62 ∷ []
named upper = 117 ∷ 112 ∷ 112 ∷ 101 ∷ 114 ∷ 62 ∷ []
named xdigit = 120 ∷ 100 ∷ 105 ∷ 103 ∷ 105 ∷ 116 ∷ 62 ∷ []

-- the bytes from one to another
pub data Span : Type 0 where
  span : ℕ → ℕ → Span

unfoldable pub spans : Set → List Span
spans alnum = span 0x30 0x39 ∷ span 0x41 0x5A ∷ span 0x61 0x7A ∷ []
spans alpha = span 0x41 0x5A ∷ span 0x61 0x7A ∷ []
spans blank = span 0x09 0x09 ∷ span 0x20 0x20 ∷ []
spans cntrl = span 0x00 0x1F ∷ span 0x7F 0x7F ∷ []
spans digit = span 0x30 0x39 ∷ []
spans graph = span 0x21 0x7E ∷ []
spans lower = span 0x61 0x7A ∷ []
spans print = span 0x20 0x7E ∷ []
spans punct = span 0x21 0x2F ∷ span 0x3A 0x40 ∷ span 0x5B 0x60 ∷ span 0x7B 0x7E ∷ []
spans space = span 0x09 0x0D ∷ span 0x20 0x20 ∷ []
spans upper = span 0x41 0x5A ∷ []
spans xdigit = span 0x30 0x39 ∷ span 0x41 0x46 ∷ span 0x61 0x66 ∷ []
