-- Any two results that a promise allows for one input are equal: the answer, and all lent memory.
-- One theorem for each public call; a promise is the record that the call's contract in src/ cites, or the one equation there of a refusal's number or place. OnceInC has the calls for C.
use Rattle.std.specs.Prelude.{ℕ, ◌≡◌, Option, Result, Bool, List}
use Rattle.std.proofs.Common.{sym, ◌∙◌}
use Rattle.number.specs.declared.Refusal.{Refusal}
use Rattle.number.specs.declared.Grouped.{Grouped}
use Rattle.number.specs.Refused.{number, place}
use Rattle.number.specs.Promises.{ReadsNumber, ReadsField}
use Rattle.meaning.specs.Re.{Text}
use Rattle.book.specs.Promises.{Checks, TellsKind}
use Rattle.table.specs.Promises.{Tests, Loads, WritesSheet}
use Rattle.cutting.specs.declared.Word.{Word}
use Rattle.cutting.specs.declared.Ended.{Ended}
use Rattle.cutting.specs.Promises.{CutsInto, CutsWords}
use Rattle.building.specs.Promises.{Builds}
use Rattle.verdict.specs.declared.Difference.{Difference}
use Rattle.comparing.specs.Promises.{Compares}
use Rattle.typing.specs.Promises.{Types}
use Rattle.answers.specs.Told.{taken_one, counted_one, wrote_one, checked_one, told_one, ended_one, compared_one}

pub one_refusal_number : (r : Refusal) (x y : ℕ) → x ≡ number r → y ≡ number r → x ≡ y
one_refusal_number r x y p q = p ∙ sym q

pub one_refusal_place : (r : Refusal) (x y : ℕ) → x ≡ place r → y ≡ place r → x ≡ y
one_refusal_place r x y p q = p ∙ sym q

pub one_number : (s : List ℕ) (at : ℕ) (x y : Grouped) → ReadsNumber s at x → ReadsNumber s at y → x ≡ y
one_number s at x y p q =
    let same = taken_one x.taken y.taken (p.answer ∙ sym q.answer) in
    let groups = p.groups ∙ sym q.groups in
    λ i. record { taken = same i; groups = groups i }

pub one_field : (s : List ℕ) (lo hi at : ℕ) (x y : Result (ℕ × ℕ) Refusal) → ReadsField s lo hi at x → ReadsField s lo hi at y → x ≡ y
one_field s lo hi at x y p q = taken_one x y (p.answer ∙ sym q.answer)

pub one_check : (file : List ℕ) (x y : Result (ℕ × ℕ) Refusal) → Checks file x → Checks file y → x ≡ y
one_check file x y p q = checked_one x y (p.answer ∙ sym q.answer)

pub one_kind : (file : List ℕ) (i : ℕ) (x y : Result (Option ℕ) Refusal) → TellsKind file i x → TellsKind file i y → x ≡ y
one_kind file i x y p q = told_one x y (p.answer ∙ sym q.answer)

pub one_test : (s : ℕ) (l t : List ℕ) (x y : Bool) → Tests s l t x → Tests s l t y → x ≡ y
one_test s l t x y p q = p.answer ∙ sym q.answer

pub one_load : (file l t l₁ t₁ l₂ t₂ : List ℕ) (x y : Result ℕ Refusal) → Loads file l t l₁ t₁ x → Loads file l t l₂ t₂ y
    → (x ≡ y) × (l₁ ≡ l₂) × (t₁ ≡ t₂)
one_load file l t l₁ t₁ l₂ t₂ x y p q =
    (counted_one x y (p.answer ∙ sym q.answer), p.labels ∙ sym q.labels, p.targets ∙ sym q.targets)

pub one_write : (s : ℕ) (l t o o₁ o₂ : List ℕ) (x y : Result ℕ Refusal) → WritesSheet s l t o o₁ x → WritesSheet s l t o o₂ y → (x ≡ y) × (o₁ ≡ o₂)
one_write s l t o o₁ o₂ x y p q = (wrote_one x y (p.answer ∙ sym q.answer), p.out ∙ sym q.out)

pub one_cut : (s : ℕ) (l t : List ℕ) (text : Text) (w w₁ w₂ : List Word) (x y : Result Ended Refusal) → CutsWords s l t text w w₁ x → CutsWords s l t text w w₂ y
    → (x ≡ y) × (w₁ ≡ w₂)
one_cut s l t text w w₁ w₂ x y p q = (ended_one x y (p.answer ∙ sym q.answer), p.records ∙ sym q.records)

pub one_cut_from : (s : ℕ) (l t : List ℕ) (text : Text) (at : ℕ) (c c₁ c₂ : List ℕ) (x y : Result Ended Refusal) → CutsInto s l t text at c c₁ x
    → CutsInto s l t text at c c₂ y → (x ≡ y) × (c₁ ≡ c₂)
one_cut_from s l t text at c c₁ c₂ x y p q = (ended_one x y (p.answer ∙ sym q.answer), p.cells ∙ sym q.cells)

pub one_build : (file l t s l₁ t₁ s₁ l₂ t₂ s₂ : List ℕ) (x y : Result ℕ Refusal) → Builds file l t s l₁ t₁ s₁ x → Builds file l t s l₂ t₂ s₂ y
    → (x ≡ y) × (l₁ ≡ l₂) × (t₁ ≡ t₂) × (s₁ ≡ s₂)
one_build file l t s l₁ t₁ s₁ l₂ t₂ s₂ x y p q =
    (counted_one x y (p.answer ∙ sym q.answer), p.labels ∙ sym q.labels, p.targets ∙ sym q.targets, p.work ∙ sym q.work)

pub one_comparison : (file : List ℕ) (n : ℕ) (l t a s a₁ s₁ a₂ s₂ : List ℕ) (x y : Result (Option Difference) Refusal) → Compares file n l t a s a₁ s₁ x
    → Compares file n l t a s a₂ s₂ y → (x ≡ y) × (a₁ ≡ a₂) × (s₁ ≡ s₂)
one_comparison file n l t a s a₁ s₁ a₂ s₂ x y p q =
    (compared_one x y (p.answer ∙ sym q.answer), p.text ∙ sym q.text, p.work_after ∙ sym q.work_after)

pub one_typing : (text out o₁ o₂ : List ℕ) (x y : Result ℕ Refusal) → Types text out x o₁ → Types text out y o₂ → (x ≡ y) × (o₁ ≡ o₂)
one_typing text out o₁ o₂ x y p q = (wrote_one x y (p.answer ∙ sym q.answer), p.output ∙ sym q.output)
