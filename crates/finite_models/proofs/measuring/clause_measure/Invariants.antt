use Rattle.std.proofs.Common.{◌≡◌, ◌+◌, map, take}
use Rattle.std.specs.Prelude.{sum_by}
use Rattle.plain_types.specs.Capped.{capped}
use Rattle.fol_base.specs.Literal.{literal_of, clause_of}
use Rattle.finite_models.specs.Measure.{literal_occurrences, variable_count}
use Rattle.finite_models.proofs.measuring.clause_measure.Given as goal

abbrev pub invariant-loop-literal : goal.invariant-loop-literal
invariant-loop-literal l =
    l.exponent
    ≡ capped (variable_count (clause_of l.clause) + sum_by literal_occurrences (map literal_of (take l.literal-index l.literal-items)))
