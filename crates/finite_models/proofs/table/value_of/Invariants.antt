use Rattle.std.proofs.Common.{◌≡◌, ◌-◌}
use Rattle.sat_core.specs.Clause.{valuation_of}
use Rattle.finite_models.specs.Translation.{value_name}
use Rattle.finite_models.specs.Table.{first_passing}
use Rattle.finite_models.proofs.table.value_of.Given as goal

abbrev pub invariant-loop-value : goal.invariant-loop-value
invariant-loop-value l =
    first_passing (λ v. valuation_of l.truths (value_name l.function.first l.function.rows l.number v)) 0 l.function.size
    ≡ first_passing (λ v. valuation_of l.truths (value_name l.function.first l.function.rows l.number v)) l.value (l.function.size - l.value)
