-- What make_book answers: a refusal exactly where the text has no book, and that refusal; else that the book was saved, or that it was not.
-- Which of these two it is no promise can say, since writing is the system's.
use Rattle.std.specs.Prelude.{ℕ, ◌≡◌, refl, ◌⊎◌, Result, Ok, Err, List}
use Rattle.std.proofs.Common.{arith, sym, ap, subst, ◌∙◌, ⊎_elim}
use Rattle.number.specs.declared.Refusal.{Refusal}
use Rattle.number.specs.Refused.{number, place, Outcome, Row, row_of}
use Rattle.number.specs.Refused.Outcome.{gives, refuses}
use Rattle.number.specs.Refused.Row.{no_row, row as row_at}
use Rattle.table.specs.Calls.{wrote}
use Rattle.typed.specs.Calls.{put_book}
use Rattle.rules_book.specs.Print.{rules_bytes, MakesBook}
use Rattle.saved.specs.declared.Made.{Made}
use Rattle.saved.specs.declared.Made.TheVariants.{Saved, Unsaved, Refused}

abbrev pub MadeOf : Outcome (List ℕ) → Made → Type 0
MadeOf (gives book) made = (made ≡ Saved) ⊎ (made ≡ Unsaved)
MadeOf (refuses r) made = made ≡ Refused r

-- the same by the paper's number and place; whether something could be saved is no row of the table
abbrev pub row_made : Made → Row
row_made Saved = no_row
row_made Unsaved = no_row
row_made (Refused r) = row_at (number r) (place r)

pub record Makes (text : List ℕ) (made : Made) : Type 0 where
  pub became : MadeOf (rules_bytes text) made
  pub row : row_made made ≡ row_of (rules_bytes text)

-- number and place go with what it became
pub row_made_lem : (x : Outcome (List ℕ)) (made : Made) → MadeOf x made → row_made made ≡ row_of x
row_made_lem (gives book) made h = ⊎_elim (ap row_made) (ap row_made) h
row_made_lem (refuses r) made h = ap row_made h

makes : (text : List ℕ) (made : Made) → MadeOf (rules_bytes text) made → Makes text made
makes text made h = record { became = h; row = row_made_lem (rules_bytes text) made h }

module _ (text : List ℕ) {out out' : List ℕ} {w : Result ℕ Refusal} (m : MakesBook text out w out') where
  -- a length is told only of a book
  pub when_written : (n : ℕ) (made : Made) → w ≡ Ok n → (made ≡ Saved) ⊎ (made ≡ Unsaved) → Makes text made
  when_written n made e s = by_outcome (rules_bytes text) refl
    where
      by_outcome : (x : Outcome (List ℕ)) → rules_bytes text ≡ x → Makes text made
      by_outcome (gives book) f = makes text made (subst (λ y. MadeOf y made) (sym f) s)
      by_outcome (refuses r) f =
          let z : ◌≡◌ {A = Outcome ℕ} (gives n) (refuses r) = sym (ap wrote e) ∙ m.answer ∙ ap (λ y. (put_book out y).answer) f in
          absurd (let y : ◌≡◌ {A = ℕ} 0 1 = cc in omega arith)

  -- and a refusal only where there is none, the same
  pub when_refused : (r : Refusal) → w ≡ Err r → Makes text (Refused r)
  when_refused r e = by_outcome (rules_bytes text) refl
    where
      by_outcome : (x : Outcome (List ℕ)) → rules_bytes text ≡ x → Makes text (Refused r)
      by_outcome (gives book) f =
          let z : ◌≡◌ {A = Outcome ℕ} (refuses r) (gives _) = sym (ap wrote e) ∙ m.answer ∙ ap (λ y. (put_book out y).answer) f in
          absurd (let y : ◌≡◌ {A = ℕ} 0 1 = cc in omega arith)
      by_outcome (refuses q) f =
          let z : ◌≡◌ {A = Outcome ℕ} (refuses r) (refuses q) = sym (ap wrote e) ∙ m.answer ∙ ap (λ y. (put_book out y).answer) f in
          let same : r ≡ q = cc in
          makes text (Refused r) (subst (λ y. MadeOf y (Refused r)) (sym f) (ap Refused same))
