-- What each promise says, as one equation: the answer and all lent memory are those of the definition that the theorems of the layers speak of.
-- So what those say of `load_of`, `build_of` and the others is said of whatever a call may answer and leave. To believe it, read the promises and these definitions.
use Rattle.std.specs.Prelude.{ℕ, ◌≡◌, Option, Result, Bool, List}
use Rattle.number.specs.declared.Refusal.{Refusal}
use Rattle.number.specs.declared.Grouped.{Grouped}
use Rattle.number.specs.Refused.{Answer}
use Rattle.number.specs.Numbers.{taken, read_number, groups_read, field}
use Rattle.number.specs.Promises.{ReadsNumber, ReadsField}
use Rattle.meaning.specs.Re.{Text}
use Rattle.book.specs.Calls.{checked, check_of, kind_told, kind_of}
use Rattle.book.specs.Promises.{Checks, TellsKind}
use Rattle.table.specs.Table.{well_formed}
use Rattle.table.specs.Calls.{counted, wrote, Filled, load_of, Output, write_of}
use Rattle.table.specs.Promises.{Tests, Loads, WritesSheet}
use Rattle.cutting.specs.declared.Word.{Word}
use Rattle.cutting.specs.declared.Ended.{Ended}
use Rattle.cutting.specs.Calls.{ended, Recorded, cut_from_of}
use Rattle.cutting.specs.Flat.{Laid, cut_cells_of}
use Rattle.cutting.specs.Promises.{CutsInto, CutsWords}
use Rattle.built.specs.Calls.{Building, build_of}
use Rattle.building.specs.Promises.{Builds}
use Rattle.verdict.specs.declared.Difference.{Difference}
use Rattle.verdict.specs.Calls.{compared, Comparison, compare_of}
use Rattle.comparing.specs.Promises.{Compares}
use Rattle.typed.specs.Calls.{type_of}
use Rattle.typing.specs.Promises.{Types}

pub the_number_promise : (s : List ℕ) (at : ℕ) (r : Grouped) → ReadsNumber s at r
    → ◌≡◌ {A = Answer ℕ × ℕ} (taken r.taken, r.groups) (read_number s at, groups_read s at)
the_number_promise s at r p = λ i. (p.answer i, p.groups i)

pub the_field_promise : (s : List ℕ) (lo hi at : ℕ) (r : Result (ℕ × ℕ) Refusal) → ReadsField s lo hi at r → taken r ≡ field s lo hi at
the_field_promise s lo hi at r p = p.answer

pub the_check_promise : (file : List ℕ) (r : Result (ℕ × ℕ) Refusal) → Checks file r → checked r ≡ check_of file
the_check_promise file r p = p.answer

pub the_kind_promise : (file : List ℕ) (i : ℕ) (r : Result (Option ℕ) Refusal) → TellsKind file i r → kind_told r ≡ kind_of file i
the_kind_promise file i r p = p.answer

pub the_test_promise : (s : ℕ) (l t : List ℕ) (r : Bool) → Tests s l t r → r ≡ well_formed s l t
the_test_promise s l t r p = p.answer

pub the_load_promise : (file l t l' t' : List ℕ) (r : Result ℕ Refusal) → Loads file l t l' t' r
    → ◌≡◌ {A = Filled} (record { answer = counted r; labels = l'; targets = t' }) (load_of file l t)
the_load_promise file l t l' t' r p = λ i. record { answer = p.answer i; labels = p.labels i; targets = p.targets i }

pub the_write_promise : (s : ℕ) (l t o o' : List ℕ) (r : Result ℕ Refusal) → WritesSheet s l t o o' r
    → ◌≡◌ {A = Output} (record { answer = wrote r; out = o' }) (write_of s l t o)
the_write_promise s l t o o' r p = λ i. record { answer = p.answer i; out = p.out i }

pub the_cut_promise : (s : ℕ) (l t : List ℕ) (text : Text) (w w' : List Word) (r : Result Ended Refusal) → CutsWords s l t text w w' r
    → ◌≡◌ {A = Recorded} (record { answer = ended r; records = w' }) (cut_from_of s l t text 0 w)
the_cut_promise s l t text w w' r p = λ i. record { answer = p.answer i; records = p.records i }

pub the_cut_from_promise : (s : ℕ) (l t : List ℕ) (text : Text) (at : ℕ) (c c' : List ℕ) (r : Result Ended Refusal) → CutsInto s l t text at c c' r
    → ◌≡◌ {A = Laid} (record { answer = ended r; cells = c' }) (cut_cells_of s l t text at c)
the_cut_from_promise s l t text at c c' r p = λ i. record { answer = p.answer i; cells = p.cells i }

pub the_build_promise : (file l t s l' t' s' : List ℕ) (r : Result ℕ Refusal) → Builds file l t s l' t' s' r
    → ◌≡◌ {A = Building} (record { table = record { answer = counted r; labels = l'; targets = t' }; work = s' }) (build_of file l t s)
the_build_promise file l t s l' t' s' r p =
    λ i. record { table = record { answer = p.answer i; labels = p.labels i; targets = p.targets i }; work = p.work i }

pub the_comparison_promise : (file : List ℕ) (n : ℕ) (l t a s a' s' : List ℕ) (r : Result (Option Difference) Refusal) → Compares file n l t a s a' s' r
    → ◌≡◌ {A = Comparison} (record { answer = compared r; text = a'; work = s' }) (compare_of file n l t a s)
the_comparison_promise file n l t a s a' s' r p = λ i. record { answer = p.answer i; text = p.text i; work = p.work_after i }

pub the_typing_promise : (text out out' : List ℕ) (r : Result ℕ Refusal) → Types text out r out'
    → ◌≡◌ {A = Output} (record { answer = wrote r; out = out' }) (type_of text out)
the_typing_promise text out out' r p = λ i. record { answer = p.answer i; out = p.output i }
