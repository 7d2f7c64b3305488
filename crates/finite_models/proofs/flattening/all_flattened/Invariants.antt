use Rattle.std.proofs.Common.{◌≡◌, map, take}
use Rattle.fol_base.specs.Literal.{clause_of}
use Rattle.finite_models.specs.Flattening.{flat_clause}
use Rattle.finite_models.proofs.flattening.all_flattened.Given as goal

abbrev pub invariant-loop-clause : goal.invariant-loop-clause
invariant-loop-clause l = l.flat.items ≡ map flat_clause (map clause_of (take l.clause-index l.clauses))
