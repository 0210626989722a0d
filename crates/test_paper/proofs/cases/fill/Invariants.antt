-- The bytes so far lie within the area.
use Rattle.std.proofs.Common.{length, ◌≤◌}
use Rattle.test_paper.proofs.cases.fill.Given as goal

abbrev pub invariant-loop : goal.invariant-loop
invariant-loop l = l.spot.at ≤ length l.area
