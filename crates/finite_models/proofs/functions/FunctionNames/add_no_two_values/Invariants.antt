use Rattle.std.proofs.Common.{◌+◌, ◌*◌}
use Rattle.finite_models.specs.Translation.{Adds, has_no_two}
use Rattle.finite_models.proofs.functions.FunctionNames.add_no_two_values.Given as goal

abbrev pub invariant-loop-value : goal.invariant-loop-value
invariant-loop-value l =
    Adds (l.self.first + l.self.size * l.self.rows) l.initial.clauses l.clauses (has_no_two l.value l.self.first l.self.rows l.number)
