-- `normal::joined` meets its contract: the answer is the node of the join's kind.
-- Assumes nothing.
use Rattle.normal.proofs.joined.Goals as goal

pub returns-in-Then : goal.returns-in-Then
returns-in-Then c = rw c.in-Then.is

pub returns-in-Or : goal.returns-in-Or
returns-in-Or c = rw c.in-Or.is

pub returns-in-Both : goal.returns-in-Both
returns-in-Both c = rw c.in-Both.is
