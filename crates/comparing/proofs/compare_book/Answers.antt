-- `comparing::compare_book` meets its contract: too little room, with nothing changed, or what comparing answers, with the work area all 0.
-- Assumes nothing.
use Rattle.comparing.specs.AnswerLaws.{blank_filled, compare_small_area, compare_small_work, compare_done}
use Rattle.comparing.proofs.compare_book.Goals as goal

pub returns-then-room-lt-SHOWN_TEXT : goal.returns-then-room-lt-SHOWN_TEXT
returns-then-room-lt-SHOWN_TEXT c = compare_small_area _ _ _ _ _ _ c.if-room-lt-SHOWN_TEXT.true

pub returns-then-work-lt-WORK_LENGTH : goal.returns-then-work-lt-WORK_LENGTH
returns-then-work-lt-WORK_LENGTH c = compare_small_work _ _ _ _ _ _ c.if-room-lt-SHOWN_TEXT.false c.if-work-lt-WORK_LENGTH.true

pub compare_part-answer-requires : goal.compare_part-answer-requires
compare_part-answer-requires c =
    record { blank = blank_filled _ _ c.if-room-lt-SHOWN_TEXT.false c.fill.ensures; work_length_in_bounds = c.if-work-lt-WORK_LENGTH.false }

pub returns : goal.returns
returns c =
    compare_done _ _ _ _ _ _ c.if-room-lt-SHOWN_TEXT.false c.if-work-lt-WORK_LENGTH.false _ _ c.compare_part-answer.new.work _ _
    c.fill.auto.cells c.compare_part-answer.ensures c.compare_part-answer.auto.work c.clear.ensures
