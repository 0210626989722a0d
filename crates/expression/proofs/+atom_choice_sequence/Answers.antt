-- `expression::choice`, `sequence` and `atom` meet their contracts together: one law a return, and one a turn of a loop.
-- Assumes nothing.
use Rattle.std.proofs.Common.{◌-◌, arith, sym, ◌∙◌}
use Rattle.std.proofs.lemmas.Result.{err_from_is_err_and}
use Rattle.names.specs.ByteLaws.{byte_inside}
use Rattle.expression.specs.PartLaws.{at_of}
use Rattle.expression.specs.PartLaws.{sequence_first, sequence_wrong, sequence_on, sequence_more_wrong, sequence_done, sequence_end}
use Rattle.expression.specs.PartLaws.{choice_first, choice_wrong, choice_next, choice_more_wrong, choice_done, choice_end}
use Rattle.expression.specs.PartLaws.{opened_there, atom_deep, atom_empty, atom_group, shut_wrong, shut_missing, shut_there}
use Rattle.expression.proofs.+atom_choice_sequence.Goals as goal

-- ---- an atom

pub atom-returns-then-room-eq0 : goal.atom-returns-then-room-eq0
atom-returns-then-room-eq0 t c = atom_deep _ _ _ c.byte_at.ensures c.if-byte_at-ne40.false _ _ _ c.if-room-eq0.true

pub atom-returns-then-byte_at-eq41 : goal.atom-returns-then-byte_at-eq41
atom-returns-then-byte_at-eq41 t c = atom_empty _ _ _ c.byte_at.ensures c.if-byte_at-ne40.false _ _ _ (c.args.room - 1) _ _ _ (omega (arith, c.if-room-eq0.false)) c.byte_at-2.ensures c.if-byte_at-eq41.true c.lay-t.ensures

pub atom-choice-requires : goal.atom-choice-requires
atom-choice-requires t c = let l = opened_there _ _ _ c.byte_at.ensures c.if-byte_at-ne40.false in (omega (arith, l), omega (arith, l))

pub atom-returns-in_err-p : goal.atom-returns-in_err-p
atom-returns-in_err-p t c =
    let told = err_from_is_err_and c.from_residual.result c.from_residual.ensures.1 in
    rw (told.1, told.2) (atom_group _ _ _ c.byte_at.ensures c.if-byte_at-ne40.false _ _ _ (c.args.room - 1) _ _ _ _ (omega (arith, c.if-room-eq0.false)) c.byte_at-2.ensures c.if-byte_at-eq41.false c.in_err-p.ensures (shut_wrong _ c.in_err-p.field-0.0))

pub atom-returns-then-byte_at-ne41 : goal.atom-returns-then-byte_at-ne41
atom-returns-then-byte_at-ne41 t c = atom_group _ _ _ c.byte_at.ensures c.if-byte_at-ne40.false _ _ _ (c.args.room - 1) _ _ _ _ (omega (arith, c.if-room-eq0.false)) c.byte_at-2.ensures c.if-byte_at-eq41.false c.in_ok-p.ensures (shut_missing _ _ _ _ c.byte_at-3.ensures c.if-byte_at-ne41.true)

pub atom-returns : goal.atom-returns
atom-returns t c = atom_group _ _ _ c.byte_at.ensures c.if-byte_at-ne40.false _ _ _ (c.args.room - 1) _ _ _ _ (omega (arith, c.if-room-eq0.false)) c.byte_at-2.ensures c.if-byte_at-eq41.false c.in_ok-p.ensures (shut_there _ _ _ _ c.byte_at-3.ensures c.if-byte_at-ne41.false)

-- ---- a choice

pub choice-returns-in_err-p : goal.choice-returns-in_err-p
choice-returns-in_err-p t c =
    let told = err_from_is_err_and c.from_residual.result c.from_residual.ensures.1 in
    rw (told.1, told.2) (choice_wrong _ _ _ _ _ c.in_err-p.ensures)

pub choice-returns-then-text-p-ne124 : goal.choice-returns-then-text-p-ne124
choice-returns-then-text-p-ne124 t c = choice_done _ _ _ _ _ _ _ _ (c.loop-p.invariant.reads _ _ _ (choice_first _ _ _ _ _ c.in_ok-p.ensures)) (λ z. c.if-text-p-ne124.true (byte_inside _ _ c.loop-p-test.true ∙ z))

pub choice-returns-in_err-q : goal.choice-returns-in_err-q
choice-returns-in_err-q t c =
    let told = err_from_is_err_and c.from_residual-in_err-q.result c.from_residual-in_err-q.ensures.1 in
    rw (told.1, told.2) (choice_more_wrong _ _ _ _ _ _ _ _ (c.loop-p.invariant.reads _ _ _ (choice_first _ _ _ _ _ c.in_ok-p.ensures)) c.loop-p-test.true (sym (byte_inside _ _ c.loop-p-test.true) ∙ c.if-text-p-ne124.false) _ _ c.in_err-q.ensures)

pub choice-loop-p-preserved : goal.choice-loop-p-preserved
choice-loop-p-preserved t c = choice_next c.loop-p.invariant c.loop-p-test.true (sym (byte_inside _ _ c.loop-p-test.true) ∙ c.if-text-p-ne124.false) c.in_ok-q.ensures c.lay-t.ensures

pub choice-returns : goal.choice-returns
choice-returns t c = choice_end _ _ _ _ _ _ _ _ (c.loop-p.invariant.reads _ _ _ (choice_first _ _ _ _ _ c.in_ok-p.ensures)) c.loop-p-test.false

-- ---- a sequence

pub sequence-returns-in_err-from : goal.sequence-returns-in_err-from
sequence-returns-in_err-from t c =
    let told = err_from_is_err_and c.from_residual.result c.from_residual.ensures.1 in
    rw (told.1, told.2) (sequence_wrong _ _ _ _ _ c.in_err-from.ensures)

pub sequence-returns-then-not-begins_atom : goal.sequence-returns-then-not-begins_atom
sequence-returns-then-not-begins_atom t c = sequence_done _ _ _ _ _ _ _ _ (c.loop-p.invariant.reads _ _ _ (sequence_first _ _ _ _ _ (c.marks-p.ensures.reads _ _ _ c.in_ok-from.ensures))) _ (byte_inside _ _ c.loop-p-test.true) (sym c.if-not-begins_atom.true ∙ c.begins_atom.ensures)

pub sequence-atom-requires-in-loop-p : goal.sequence-atom-requires-in-loop-p
sequence-atom-requires-in-loop-p t c = let f = at_of (c.marks-p.ensures.reads _ _ _ c.in_ok-from.ensures).within in (omega (arith, c.requires, c.loop-p.invariant.started, f.0, c.loop-p-test.true), omega (arith, c.loop-p-test.true))

pub sequence-returns-in_err-q : goal.sequence-returns-in_err-q
sequence-returns-in_err-q t c =
    let told = err_from_is_err_and c.from_residual-in_err-q.result c.from_residual-in_err-q.ensures.1 in
    rw (told.1, told.2) (sequence_more_wrong _ _ _ _ _ _ _ _ (c.loop-p.invariant.reads _ _ _ (sequence_first _ _ _ _ _ (c.marks-p.ensures.reads _ _ _ c.in_ok-from.ensures))) _ _ _ (byte_inside _ _ c.loop-p-test.true) (sym c.if-not-begins_atom.false ∙ c.begins_atom.ensures) c.in_err-q.ensures)

pub sequence-loop-p-smaller : goal.sequence-loop-p-smaller
sequence-loop-p-smaller t c = omega (arith, c.loop-p-test.true, (at_of (c.marks-next.ensures.reads _ _ _ c.in_ok-q.ensures).within).0)

pub sequence-loop-p-preserved : goal.sequence-loop-p-preserved
sequence-loop-p-preserved t c = sequence_on c.loop-p.invariant c.loop-p-test.true _ (byte_inside _ _ c.loop-p-test.true) (sym c.if-not-begins_atom.false ∙ c.begins_atom.ensures) (c.marks-next.ensures.reads _ _ _ c.in_ok-q.ensures) c.lay-t.ensures

pub sequence-returns : goal.sequence-returns
sequence-returns t c = sequence_end _ _ _ _ _ _ _ _ (c.loop-p.invariant.reads _ _ _ (sequence_first _ _ _ _ _ (c.marks-p.ensures.reads _ _ _ c.in_ok-from.ensures))) c.loop-p-test.false
