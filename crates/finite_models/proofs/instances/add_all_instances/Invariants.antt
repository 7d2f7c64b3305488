use Rattle.std.proofs.Common.{take}
use Rattle.finite_models.specs.Translation.{Adds, flat_clauses_true}
use Rattle.finite_models.proofs.instances.add_all_instances.Given as goal

abbrev pub invariant-loop-clause : goal.invariant-loop-clause
invariant-loop-clause l =
    Adds l.names.count l.initial.clauses l.clauses (flat_clauses_true (take l.clause-index l.flat) l.names)
