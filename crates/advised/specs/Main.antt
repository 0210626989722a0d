-- The theorems of what people are told that are bought, together; each is proved in the file that its proof names.
-- To believe them, read only definitions: Advice, Bought and Sample, Print of rules_book, and those of number, lines and typed that they name.
use Rattle.std.specs.Prelude.{ℕ, ◌≤◌, ◌<◌, ◌≡◌, refl, true, [], ◌∷◌, ◌++◌, map, ◌↔◌, length, take, replicate}
use Rattle.number.specs.declared.Refusal.{Refusal}
use Rattle.number.specs.declared.Refusal.TheVariants.{Short, Number, Range, Stack, Tail, Long, Pool, States, Runs, Loaded, Room, Pairs, Input, Typed, Padded}
use Rattle.number.specs.Limits.{rules_file}
use Rattle.number.specs.Refused.Outcome.{refuses}
use Rattle.meaning.specs.Re.{Text}
use Rattle.typed.specs.Calls.{book_bytes}
use Rattle.number.specs.Quoted.{quoted}
use Rattle.rules_book.specs.Print.{rules_bytes}
use Rattle.advised.specs.Advice.{start_at, could_stand, unsaved, advice_of, advice_room}
use Rattle.advised.specs.Bought.{Begins, StartOfLine, Told}
use Rattle.advised.specs.Sample.{EachHolds, cases}
use Rattle.advised.specs.CaseLaws.{untold}
use Rattle.advised.specs.ByteLaws.{could_begins, begins_could, before_wrong}
use Rattle.advised.specs.StartLaws.{line_starts}
use Rattle.advised.specs.TellingLaws.{refusal_told}
use Rattle.advised.specs.SampleLaws.{told_texts, unread_file}

-- whatever text program rules refuses, people are told by the advice that belongs to it
pub the_telling : (text : Text) (r : Refusal) → rules_bytes text ≡ refuses r → Told text r (advice_of text r)
the_telling = refusal_told

-- behind bytes that begin some rightly typed text, exactly those bytes could stand with which they still begin one
pub the_bytes : (before : Text) (c : ℕ) → Begins before → (could_stand before c ≡ true) ↔ Begins (before ++ (c ∷ []))
the_bytes before c b = (could_begins before c b, begins_could before c)

-- and what stands before a place that refusal 14 tells does begin one
pub the_place : (text : Text) (p : ℕ) → book_bytes text ≡ refuses (Typed p) → Begins (take p text)
the_place = before_wrong

-- the line of a place starts at the text's start or behind a newline, and none stands between there and the place
pub the_start : (text : Text) (p : ℕ) → StartOfLine (take p text) (start_at text p)
the_start = line_starts

-- advice on six texts, as people see it
pub the_told_texts : EachHolds cases
the_told_texts = told_texts

-- and on a file that is missing or too long, which is handed on as too many bytes
pub the_unread_file : (text : Text) (r : Refusal) → rules_file < length text
    → advice_of text r ≡ quoted "words.rules cannot be read, or has more than 32768 bytes.\n"
the_unread_file = unread_file

-- and where the book of a right text cannot be written
pub the_unsaved_book : unsaved ≡ quoted "words.book cannot be written.\n"
unfolding unsaved
the_unsaved_book = refl

-- of refusals that typing never answers nothing is told, nor of a place outside the text
pub the_silence : (text : Text) (p : ℕ) → 0 < length text → length text ≤ rules_file
    → (map (advice_of text) (Short p ∷ Number p ∷ Stack p ∷ Tail p ∷ Long p ∷ Pool p ∷ States p ∷ Runs p ∷ Loaded ∷ Room ∷ Pairs p ∷ Input ∷ Padded p ∷ []) ≡ replicate 13 [])
    × (length text < p → map (advice_of text) (Typed p ∷ Range p ∷ []) ≡ replicate 2 [])
the_silence = untold

-- the room that any advice is given
pub the_room : advice_room ≡ 69888
the_room = refl
