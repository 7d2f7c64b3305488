use Rattle.std.specs.List.{list_all}
use Rattle.fol_base.specs.Canonical.{numbers_from}
use Rattle.finite_models.specs.Digits.{digits}
use Rattle.finite_models.specs.EntryNames.{entries_of}
use Rattle.finite_models.specs.Flattening.{some_true}
use Rattle.finite_models.specs.Translation.{Adds}
use Rattle.finite_models.proofs.instances.add_instances.Given as goal

abbrev pub invariant-loop-number : goal.invariant-loop-number
invariant-loop-number l =
    Adds l.names.count l.initial.clauses l.clauses
    (λ valuation.
    list_all (λ number. some_true (entries_of valuation l.names) l.clause.literals (digits l.names.size l.clause.slots number))
    (numbers_from 0 l.number))
