-- What the code that works off a rule's nodes asks and answers: the rule, the stack of cells, and how many cells the rest may use.
-- The contracts of this crate are stated with these.
use Rattle.std.specs.Prelude.{ℕ, ◌+◌, ◌-◌, ◌*◌, ◌/◌, ◌<◌, ◌≤◌, ◌≡◌, true, List, [], ◌++◌, length, get_or, drop, Option}
use Rattle.number.specs.Limits.{nodes, work_cells, scratch}
use Rattle.number.specs.Refused.{Answer}
use Rattle.number.specs.Refused.Answer.{got, refused}
use Rattle.meaning.specs.declared.Join.TheVariants.{Or, Both}
use Rattle.meaning.specs.Re.{Re}
use Rattle.meaning.specs.Normal.{alt}
use Rattle.meaning.specs.Limited.{short, normal_fit}
use Rattle.meaning.specs.Shape.{InShape}
use Rattle.book.specs.declared.Node.{Node}
use Rattle.book.specs.declared.Node.TheVariants.{Nothing, Empty, Range, Cat, Alt, Star, Either, And, Not}
use Rattle.book.specs.Book.{Book, takes, write_nodes}
use Rattle.book.specs.Reads.{more_nodes, read_book}
use Rattle.book.specs.Valid.{Within, Leaves}
use Rattle.book.specs.Expression.{expression}
use Rattle.book.specs.Places.{rule_of}
use Rattle.term.specs.Cells.{term, Sound}
use Rattle.term.specs.Area.{pending, Room, Makes}
use Rattle.term.specs.Places.{terms_at}
use Rattle.term.specs.declared.Built.{Built}
use Rattle.normal.specs.Asked.{most_members, cat_cells}
use Rattle.merged.specs.Asked.{merge_cells}
use Rattle.normal.specs.Made.{MadeBy}
use Rattle.rule.specs.RunFit.{large, small, node_term, made, run_fit}

-- ---- the rule

-- the file is a book that is read, with such a rule
pub record Has (file : List ℕ) (rule : ℕ) : Type 0 where
  pub book : Book
  pub after : ℕ
  pub read : read_book file ≡ got book after
  pub within : rule < length book.rules

-- its expression; of a refused book nothing is claimed
abbrev pub rule_of_read : Answer Book → ℕ → Re
rule_of_read (got b after) i = expression (rule_of b i)
rule_of_read (refused r) i = Re.Nothing

abbrev pub rule_in : List ℕ → ℕ → Re
rule_in file i = rule_of_read (read_book file) i

-- the cells that its normal form may use: of the scratch, those that counting leaves
abbrev pub rule_cells : ℕ
rule_cells = scratch - pending

abbrev pub RuleMade : List ℕ → ℕ → List ℕ → ℕ → List ℕ → Option Built → Type 0
RuleMade file rule s top s' r = MadeBy s top s' r (normal_fit (rule_in file rule)) rule_cells

-- ---- one node

-- a number on the stack: the cell of a short term in normal form
pub record Item (s : List ℕ) (top i : ℕ) : Type 0 where
  pub low : i < top
  pub in_shape : InShape (term s i)
  pub is_short : short (term s i) ≡ true

abbrev pub either_cells : ℕ
either_cells = 4

-- the cells that a node uses, and those that any node may, counting left out
abbrev pub node_cells : Node → Re → Re → ℕ
node_cells Nothing a b = 1
node_cells Empty a b = 1
node_cells (Range lo hi) a b = 1
node_cells Cat a b = cat_cells a b
node_cells Alt a b = merge_cells Or a b
node_cells Star a b = 1
node_cells (Either x) a b = 3
node_cells And a b = merge_cells Both a b
node_cells Not a b = 1

abbrev pub node_room : ℕ
node_room = 2 * most_members

-- a node of some version's books and the two numbers on top of the stack, of which those that it takes are items
pub record Operands (n : Node) (s : List ℕ) (top a b : ℕ) : Type 0 where
  pub sound : Sound s top
  pub room : Room s top node_room
  pub version : ℕ
  pub good : Within version n
  pub below : 2 ≤ takes n → Item s top a
  pub first : 1 ≤ takes n → Item s top b

abbrev pub EitherBuilt : List ℕ → ℕ → ℕ → List ℕ → Built → Type 0
EitherBuilt s top x s' r = Makes s top s' r.root r.top (alt (large x) (small x)) 3

abbrev pub NodeBuilt : Node → List ℕ → ℕ → ℕ → ℕ → List ℕ → Built → Type 0
NodeBuilt n s top a b s' r = Makes s top s' r.root r.top (node_term n (term s a) (term s b)) (node_cells n (term s a) (term s b))

abbrev pub NodeMade : Node → List ℕ → ℕ → ℕ → ℕ → List ℕ → Option Built → Type 0
NodeMade n s top a b s' r = MadeBy s top s' r (made n (term s a) (term s b)) (node_cells n (term s a) (term s b))

-- ---- the nodes that are left

-- so many nodes of a book of version v stand at a place, and they leave one term where so many terms stand
pub record Standing (file : List ℕ) (v at left terms : ℕ) : Type 0 where
  pub ns : List Node
  pub many : length ns ≡ left
  pub leaves : Leaves v terms ns
  pub rest : List ℕ
  pub stands : drop at file ≡ write_nodes ns ++ rest

abbrev pub nodes_read : Answer (List Node) → List Node
nodes_read (got ns after) = ns
nodes_read (refused r) = []

abbrev pub nodes_left : List ℕ → ℕ → ℕ → ℕ → ℕ → List Node
nodes_left file v at left terms = nodes_read (more_nodes file v left terms at)

-- the terms of a stack, the top one first; two spare places stand below
abbrev pub stack_of : List ℕ → List ℕ → ℕ → List Re
stack_of s st h = terms_at (term s) (drop 2 st) h

-- the cells that the rest may use: an operator of two terms takes at most most_members and lowers the stack,
-- any other node at most three; one that ends the work may take as many again
abbrev pub rest_cells : ℕ → ℕ → ℕ
rest_cells left h = most_members / 2 * (left + h) + 3 * left + node_room

-- the rest can be worked off; a number on the stack, and in a spare place, is a cell's
pub record Working (file : List ℕ) (v at left : ℕ) (s : List ℕ) (top : ℕ) (st : List ℕ) (h : ℕ) : Type 0 where
  pub standing : Standing file v at left h
  pub sound : Sound s top
  pub room : Room s top (rest_cells left h + pending)
  pub places : h + left ≤ nodes
  pub whole : length st ≡ nodes + 2
  pub small : (i : ℕ) → i < nodes + 2 → get_or st i 0 < work_cells
  pub items : (i : ℕ) → i < h → Item s top (get_or st (i + 2) 0)

abbrev pub Worked : List ℕ → ℕ → ℕ → ℕ → List ℕ → ℕ → List ℕ → ℕ → List ℕ → Option Built → Type 0
Worked file v at left s top st h s' r = MadeBy s top s' r (run_fit (nodes_left file v at left h) (stack_of s st h)) (rest_cells left h)
