-- `comparing::compare_loaded` meets its contract: the table is not well formed, or the book is refused, or both are compared.
-- What is well formed has labels and targets enough to be cut to its states. Assumes nothing.
use native.Mathlib.Omega.{arith}
use mathlib.Core.Path.{◌≡◌, refl, sym, ap, ◌∙◌}
use mathlib.Core.Bool.{true}
use Rattle.std.proofs.lemmas.Result.{err_from_is_err_and}
use Rattle.number.specs.Refused.Outcome.{gives}
use Rattle.book.specs.Reads.{read_book}
use Rattle.book.specs.Calls.{checked, size_of}
use Rattle.table.specs.Table.{well_formed}
use Rattle.table.specs.TableLaws.{Fitting, well_fits}
use Rattle.comparing.specs.AnswerLaws.{loaded_ill, loaded_refused, loaded_comparable, loaded_compared}
use Rattle.comparing.proofs.compare_loaded.Goals as goal

pub returns-then-not-well_formed : goal.returns-then-not-well_formed
returns-then-not-well_formed c =
    loaded_ill _ _ _ _ _ c.requires.blank (sym c.if-not-well_formed.true ∙ c.well_formed-2.ensures.answer)

pub overflow_mul-end : goal.overflow_mul-end
overflow_mul-end c =
    let well : (true ≡ well_formed c.args.count c.args.labels.now c.args.targets.now) = sym c.if-not-well_formed.false ∙ c.well_formed-2.ensures.answer in
    let fitting : (Fitting c.args.count c.args.labels.now c.args.targets.now) = well_fits _ _ _ well in
    omega (arith, fitting.most)

pub slice_bounds-ls-end : goal.slice_bounds-ls-end
slice_bounds-ls-end c =
    let well : (true ≡ well_formed c.args.count c.args.labels.now c.args.targets.now) = sym c.if-not-well_formed.false ∙ c.well_formed-2.ensures.answer in
    let fitting : (Fitting c.args.count c.args.labels.now c.args.targets.now) = well_fits _ _ _ well in
    fitting.labelled

pub slice_bounds-ts-end : goal.slice_bounds-ts-end
slice_bounds-ts-end c =
    let well : (true ≡ well_formed c.args.count c.args.labels.now c.args.targets.now) = sym c.if-not-well_formed.false ∙ c.well_formed-2.ensures.answer in
    let fitting : (Fitting c.args.count c.args.labels.now c.args.targets.now) = well_fits _ _ _ well in
    fitting.targeted

pub compare_rules-requires : goal.compare_rules-requires
compare_rules-requires c =
    let well : (true ≡ well_formed c.args.count c.args.labels.now c.args.targets.now) = sym c.if-not-well_formed.false ∙ c.well_formed-2.ensures.answer in
    let counts : (size_of (read_book c.args.book.now) ≡ gives (record { rules = c.in_ok-n.n; nodes = c.in_ok-n.field-0-1 })) = sym c.check_book.ensures.answer ∙ ap checked c.in_ok-n.was in
    loaded_comparable _ _ _ _ _ c.requires.blank well _ _ counts _ _ refl refl _ c.requires.work_length_in_bounds c.requires.cells_len_bound

pub returns-in_err-n : goal.returns-in_err-n
returns-in_err-n c =
    let told = err_from_is_err_and c.from_residual.result c.from_residual.ensures.1 in
    let well : (true ≡ well_formed c.args.count c.args.labels.now c.args.targets.now) = sym c.if-not-well_formed.false ∙ c.well_formed-2.ensures.answer in
    rw (told.1, told.2) (loaded_refused _ _ _ _ _ c.requires.blank well _ (sym c.check_book.ensures.answer ∙ ap checked c.in_err-n.was))

pub returns : goal.returns
returns c =
    let well : (true ≡ well_formed c.args.count c.args.labels.now c.args.targets.now) = sym c.if-not-well_formed.false ∙ c.well_formed-2.ensures.answer in
    let counts : (size_of (read_book c.args.book.now) ≡ gives (record { rules = c.in_ok-n.n; nodes = c.in_ok-n.field-0-1 })) = sym c.check_book.ensures.answer ∙ ap checked c.in_ok-n.was in
    loaded_compared _ _ _ _ _ c.requires.blank well _ _ counts _ _ refl refl _ _ c.compare_rules.ensures
