use Rattle.std.proofs.Common.{◌+◌, ◌*◌, not, ◌||◌}
use Rattle.std.specs.List.{list_all}
use Rattle.fol_base.specs.Canonical.{numbers_from}
use Rattle.finite_models.specs.Translation.{Adds, value_name}
use Rattle.finite_models.proofs.functions.FunctionNames.add_no_lower_value.Given as goal

abbrev pub invariant-loop-lower : goal.invariant-loop-lower
invariant-loop-lower l =
    Adds (l.self.first + l.self.size * l.self.rows) l.initial.clauses l.clauses
    (λ valuation.
    list_all
    (λ w. not (valuation (value_name l.self.first l.self.rows l.number w)) || not (valuation (value_name l.self.first l.self.rows l.number l.value)))
    (numbers_from 0 l.lower))
