-- What a part of a text is to the names, as the code tells it: a set by its number, which is its place in the list of sets.
use Rattle.std.specs.Prelude.{ℕ}
use Rattle.typed.specs.Sets.{Set}
use Rattle.typed.specs.Sets.Set.{alnum, alpha, blank, cntrl, digit, graph, lower, print, punct, space, upper, xdigit}
use Rattle.typed.specs.Reader.{Known}
use Rattle.typed.specs.Reader.Known.{unknown, begun, whole}
use Rattle.names.specs.declared.Naming.{Naming}
use Rattle.names.specs.declared.Naming.TheVariants.{Unknown, Begun, Whole}

abbrev pub number : Set → ℕ
number alnum = 0
number alpha = 1
number blank = 2
number cntrl = 3
number digit = 4
number graph = 5
number lower = 6
number print = 7
number punct = 8
number space = 9
number upper = 10
number xdigit = 11

abbrev pub told : Known → Naming
told unknown = Unknown
told begun = Begun
told (whole s) = Whole (number s)
