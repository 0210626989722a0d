-- `places::rule_place` meets its contract: what checking told decides, and past it the rule is found.
-- Assumes nothing.
use Prim.Native.Nat.{ℕ, ◌<◌}
use native.Mathlib.Omega.{arith}
use mathlib.Core.Path.{◌≡◌, sym, ◌∙◌}
use mathlib.Core.List.{List}
use Rattle.std.specs.Prelude.{Some, Result, Ok, Err}
use Rattle.std.specs.Result.{result_ok}
use Rattle.number.specs.declared.Refusal.{Refusal}
use Rattle.number.specs.Refused.Outcome.{gives}
use Rattle.number.specs.Numbers.{Bytes}
use Rattle.book.specs.declared.RulePlace.{RulePlace}
use Rattle.book.specs.Calls.{check_of}
use Rattle.book.specs.Answers.{place_read, find_from, place_of}
use Rattle.book.specs.AnswerLaws.{counts_told}
use Rattle.book.specs.PlaceLaws.{place_lost, place_found}
use Rattle.places.proofs.rule_place.Goals as goal

-- what checking told, from what `ok` left of it
told : (r : Result (ℕ × ℕ) Refusal) {p : ℕ × ℕ} → Some p ≡ result_ok r → r ≡ Ok p
told (Ok q) e = cc
told (Err q) e = cc

-- what `ok` leaves of the rule that is found
left : (file : List ℕ) (rule n sum : ℕ) (r : Result RulePlace Refusal) → Bytes file → check_of file ≡ gives (record { rules = n; nodes = sum }) → rule < n
    → place_read r ≡ find_from file rule 0 → result_ok r ≡ place_of file rule
left file rule n sum (Ok p) all e h f = sym (place_found file rule n sum p all e h (sym f))
left file rule n sum (Err q) all e h f = sym (place_lost file rule n sum q all e h (sym f))

pub returns : goal.returns
returns c =
    let bytes : Bytes c.args.book.now = λ i h. omega (arith, c.type_inv.book i) in
    c.ok-2.ensures.value ∙ left _ _ _ _ _ bytes (counts_told c.check_book.ensures.answer (told _ c.in_ok-rules.ensures.value)) c.if-rules-rule.false c.find_from.ensures
