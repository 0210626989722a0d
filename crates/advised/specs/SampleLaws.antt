-- The advice of Sample is what the definitions say: the checker computes each text and compares it byte by byte.
-- And what is told of a file that is not read, which is the same for every text.
use Rattle.std.specs.Prelude.{◌<◌, ◌≡◌, Bool, true, ◌&&◌, List, [], ◌∷◌, T, length}
use Rattle.std.proofs.Common.{sym, ◌∙◌}
use Rattle.number.specs.declared.Refusal.{Refusal}
use Rattle.number.specs.Limits.{rules_file}
use Rattle.number.specs.Numbers.{write_number}
use Rattle.meaning.specs.Re.{Text}
use Rattle.meaning.proofs.SampleTests.{same_bytes}
use Rattle.book.specs.Book.{write_node, write_nodes, write_rule, write_rules, write_book}
use Rattle.lines.specs.Digits.{digits_by, decimal}
use Rattle.typed.specs.Sets.{named, spans}
use Rattle.typed.specs.Exp.{joined as joined_exps, ranges, postfix}
use Rattle.typed.specs.Spells.{between, bare, hex}
use Rattle.typed.specs.Reader.{key, starts, known, opened, shut_in, shut, barred, marks, by_key, first_digit, last_digit, by_name, step, ended}
use Rattle.typed.specs.Scan.{scan}
use Rattle.typed.specs.Lines.{digit}
use Rattle.typed.specs.LineReader.{begins, colon, on_digit, ends, stepped, turn, accept, read_lines}
use Rattle.typed.specs.Calls.{book_of, out_of, fault, start_of, ranged, answered, book_bytes}
use Rattle.typed.proofs.WorkedLaws.{same_bytes_lem}
use Rattle.number.specs.Quoted.{quoted}
use Rattle.typed.specs.TestLaws.{both_hold}
use Rattle.advised.specs.Advice.{newlines, last_start, shown, mark_line, could_stand, kept, neighbours, joined, runs, byte_name, run_name, run_names, tested_line}
use Rattle.advised.specs.Advice.{phrase, place_words, fault_words, typed_advice, too_much, range_advice, no_rule, unread, advice_on, advice_of}
use Rattle.advised.specs.Sample.{Case, Holds, EachHolds, cases}
use Rattle.advised.specs.Sample.Case.{Advised}
use Rattle.advised.specs.CaseLaws.{unread_told}

unfoldable test : Case → Bool
unfolding same_bytes book_bytes answered ranged start_of fault out_of book_of
    read_lines accept turn stepped ends on_digit colon begins digit scan
    ended step by_name last_digit first_digit by_key marks barred shut shut_in opened known starts key hex bare between
    postfix ranges joined_exps spans named quoted write_book write_rules write_rule write_nodes write_node write_number digits_by decimal
    newlines last_start shown mark_line could_stand kept neighbours joined runs byte_name run_name run_names tested_line
    phrase place_words fault_words typed_advice too_much range_advice no_rule advice_on advice_of
test (Advised text r advice) = same_bytes (advice_of (quoted text) r) (quoted advice)

unfoldable tests : List Case → Bool
tests [] = true
tests (x ∷ xs) = test x && tests xs

cases_pass : T (tests cases)
unfolding cases test tests
cases_pass = tt

test_holds : (x : Case) → T (test x) → Holds x
unfolding test
test_holds (Advised text r advice) p = same_bytes_lem (advice_of (quoted text) r) (quoted advice) p

tests_hold : (xs : List Case) → T (tests xs) → EachHolds xs
unfolding tests
tests_hold [] p = tt
tests_hold (x ∷ xs) p = let q = both_hold (test x) (tests xs) p in (test_holds x q.0, tests_hold xs q.1)

pub told_texts : EachHolds cases
told_texts = tests_hold cases cases_pass

-- of a file that is missing or too long, which is handed on as too many bytes
pub unread_file : (text : Text) (r : Refusal) → rules_file < length text
    → advice_of text r ≡ quoted "words.rules cannot be read, or has more than 32768 bytes.\n"
unfolding same_bytes quoted digits_by decimal phrase unread
unread_file text r h = sym (unread_told text r h) ∙ same_bytes_lem unread (quoted "words.rules cannot be read, or has more than 32768 bytes.\n") tt
