use Rattle.std.proofs.Common.{◌≡◌}
use Rattle.std.specs.List.{list_all}
use Rattle.fol_base.specs.Canonical.{numbers_from}
use Rattle.finite_models.specs.Constants.{constants_before, constant_true}
use Rattle.finite_models.specs.Translation.{Adds}
use Rattle.finite_models.proofs.constants.add_constants.Given as goal

abbrev pub invariant-loop-number : goal.invariant-loop-number
invariant-loop-number l =
    (l.before ≡ constants_before l.signature l.number)
    × Adds l.names.count l.initial.clauses l.clauses
    (λ valuation. list_all (constant_true l.signature l.names valuation) (numbers_from 0 l.number))
