use Rattle.std.proofs.Common.{◌+◌, ◌*◌}
use Rattle.std.specs.List.{list_any}
use Rattle.fol_base.specs.Canonical.{numbers_from}
use Rattle.finite_models.specs.Translation.{value_name}
use Rattle.finite_models.proofs.AboutLoops.AddsLemmas.{Writes}
use Rattle.finite_models.proofs.functions.FunctionNames.add_some_value.Given as goal

abbrev pub invariant-loop-value : goal.invariant-loop-value
invariant-loop-value l =
    Writes (l.self.first + l.self.size * l.self.rows) l.buffer.items
    (λ valuation. list_any (λ v. valuation (value_name l.self.first l.self.rows l.number v)) (numbers_from 0 l.value))
