use Rattle.std.proofs.Common.{◌+◌}
use Rattle.finite_models.specs.Constants.{has_none_above}
use Rattle.finite_models.specs.Translation.{Adds}
use Rattle.finite_models.proofs.constants.add_none_above.Given as goal

abbrev pub invariant-loop-value : goal.invariant-loop-value
invariant-loop-value l = Adds (l.first + l.size) l.initial.clauses l.clauses (has_none_above l.value l.first l.most)
