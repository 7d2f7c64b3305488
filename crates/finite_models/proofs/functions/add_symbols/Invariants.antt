use Rattle.std.specs.List.{list_all}
use Rattle.fol_base.specs.Canonical.{numbers_from}
use Rattle.finite_models.specs.Translation.{Adds, symbol_true}
use Rattle.finite_models.proofs.functions.add_symbols.Given as goal

abbrev pub invariant-loop-number : goal.invariant-loop-number
invariant-loop-number l =
    Adds l.names.count l.initial.clauses l.clauses
    (λ valuation. list_all (symbol_true l.signature l.names valuation) (numbers_from 0 l.number))
