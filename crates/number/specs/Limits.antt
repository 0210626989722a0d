-- Every number that document 01 fixes, or a request of document 02 after it, or that we chose, where the paper is silent (rules_file, scratch), once: a definition or a promise that needs one names it here.
-- src/limits.rt holds the same numbers for the code; a proof that crosses from one to the other fails if they differ.
use Rattle.std.specs.Prelude.{ℕ, ◌*◌}

-- numbers in files: what one group of seven bits can hold, and two, and three, which is the most there are
abbrev pub group : ℕ
group = 128

abbrev pub two_groups : ℕ
two_groups = group * group

abbrev pub three_groups : ℕ
three_groups = group * group * group

-- versions: of books the first and the last, and the only one of sheets
abbrev pub first_version : ℕ
first_version = 1

abbrev pub last_version : ℕ
last_version = 2

abbrev pub sheet_version : ℕ
sheet_version = 1

-- rule books: rules of a book, the largest kind, nodes of all rules together
abbrev pub rules : ℕ
rules = 32

abbrev pub kinds : ℕ
kinds = 16383

abbrev pub nodes : ℕ
nodes = 512

-- the codes of nodes
abbrev pub code_nothing : ℕ
code_nothing = 0

abbrev pub code_empty : ℕ
code_empty = 1

abbrev pub code_range : ℕ
code_range = 2

abbrev pub code_cat : ℕ
code_cat = 3

abbrev pub code_alt : ℕ
code_alt = 4

abbrev pub code_star : ℕ
code_star = 5

abbrev pub code_either : ℕ
code_either = 6

abbrev pub code_and : ℕ
code_and = 7

abbrev pub code_not : ℕ
code_not = 8

-- bytes: how many there are, and the largest
abbrev pub bytes : ℕ
bytes = 256

abbrev pub last_byte : ℕ
last_byte = 255

-- Either stands for a letter from a to z, and the capital stands this much below it
abbrev pub first_letter : ℕ
first_letter = 97

abbrev pub last_letter : ℕ
last_letter = 122

abbrev pub capital : ℕ
capital = 32

-- tables: states of a table, and so of a sheet, and the cells that its targets fill
abbrev pub states : ℕ
states = 255

abbrev pub table_cells : ℕ
table_cells = states * bytes

-- the walk: tree nodes of a normal-form result, distinct terms of the held vectors, held pairs, bytes of a shown text
abbrev pub tree_nodes : ℕ
tree_nodes = 255

abbrev pub pool : ℕ
pool = 2048

abbrev pub pairs : ℕ
pairs = 512

abbrev pub shown_text : ℕ
shown_text = 512

-- lent work areas: the most cells that a call may ask for
abbrev pub work_cells : ℕ
work_cells = 65536

-- the cells in which one term is made and counted, a derivative or a rule's normal form: no paper's number but ours
abbrev pub scratch : ℕ
scratch = 34816

-- rules typed as text: parentheses that may be open, and the bytes that a call asks for its book
abbrev pub deep : ℕ
deep = 32

abbrev pub typed_area : ℕ
typed_area = 4096

-- programs: bytes of a rule book's file, of standard input, of a sheet's file and of typed rules
abbrev pub book_file : ℕ
book_file = 4096

abbrev pub text_file : ℕ
text_file = 32768

abbrev pub sheet_file : ℕ
sheet_file = 65536

abbrev pub rules_file : ℕ
rules_file = 32768
