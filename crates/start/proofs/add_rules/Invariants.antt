-- `start::add_rules` meets its contract: so far the terms of the first rules are in the pool, each with its parts, behind those before.
-- A rule that is too long ends it; past the last rule the whole vector is there. Assumes nothing.
use mathlib.Core.Path.{◌≡◌}
use lib.ListN.{length}
use Rattle.walk.specs.Vectors.{normalised}
use Rattle.vector.specs.Vectors.{vector_of}
use Rattle.start.specs.Start.{rules_in, fronts}
use Rattle.start.specs.StartLaws.{Begun}
use Rattle.start.proofs.add_rules.Given as goal

abbrev pub invariant-loop-i : goal.invariant-loop-i
invariant-loop-i l =
    (length l.cells ≡ length l.initial.cells) × (length l.index ≡ length l.initial.index)
    × Begun l.book l.n (fronts (vector_of l.initial.cells l.k l.initial.at) (normalised (rules_in l.book))) l.k l.i l.index l.cells l.next l.at
