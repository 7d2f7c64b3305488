use Rattle.std.proofs.Common.{◌≡◌, ◌++◌}
use Rattle.std.specs.Vec.Iter.{into_iter_items}
use Rattle.given_work.specs.Going.{batch_lines}
use Rattle.given_work.proofs.going.lines_of_victim.Given as goal

abbrev pub invariant-loop-line : goal.invariant-loop-line
invariant-loop-line l = l.renumbered.items ++ batch_lines l.victim (into_iter_items l.line-iterator) ≡ batch_lines l.victim l.fn.lines
