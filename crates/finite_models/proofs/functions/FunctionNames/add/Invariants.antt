use Rattle.std.proofs.Common.{◌+◌, ◌*◌, ◌&&◌}
use Rattle.std.specs.List.{list_all}
use Rattle.fol_base.specs.Canonical.{numbers_from}
use Rattle.finite_models.specs.Translation.{Adds, has_value, has_no_two}
use Rattle.finite_models.proofs.functions.FunctionNames.add.Given as goal

abbrev pub invariant-loop-number : goal.invariant-loop-number
invariant-loop-number l =
    Adds (l.self.first + l.self.size * l.self.rows) l.initial.clauses l.clauses
    (λ valuation.
    list_all
    (λ number. has_value l.self.size l.self.first l.self.rows number valuation && has_no_two l.self.size l.self.first l.self.rows number valuation)
    (numbers_from 0 l.number))
