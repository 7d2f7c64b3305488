use Rattle.std.proofs.Common.{◌≡◌, ◌-◌, map, take, drop}
use Rattle.std.specs.Prelude.{flat_map}
use Rattle.fol_base.specs.Clause.{literal_instance, literal_variables}
use Rattle.fol_base.specs.Numbering.{with_variables}
use Rattle.eq_rules.proofs.renaming.number_literals.Given as goal

abbrev pub invariant-loop-index : goal.invariant-loop-index
invariant-loop-index g l =
    l.numbers
    ≡ with_variables l.initial.numbers
    (flat_map literal_variables
    (map (literal_instance (g.S.LendsTerms.meaning l.bind)) (take (l.index - l.start) (drop l.start (g.L.LendsLiterals.meaning l.literals)))))
