use Rattle.std.proofs.Common.{◌≡◌, ◌++◌, map}
use Rattle.std.specs.List.{range_with_len}
use Rattle.commands.specs.BenchProblem.{link}
use Rattle.commands.proofs.numbered_problem.push_links.Given as goal

abbrev pub invariant-loop-links : goal.invariant-loop-links
invariant-loop-links l = l.formulas ≡ l.initial.formulas ++ map link (range_with_len 1 l.links)
