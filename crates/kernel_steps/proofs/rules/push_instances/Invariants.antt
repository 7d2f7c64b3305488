use Rattle.std.proofs.Common.{◌≡◌, ◌-◌, ◌++◌, map, take, drop}
use Rattle.fol_base.specs.Clause.{literal_instance}
use Rattle.fol_base.specs.Literal.{literal_of}
use Rattle.kernel_steps.proofs.rules.push_instances.Given as goal

abbrev pub invariant-loop-index : goal.invariant-loop-index
invariant-loop-index g l =
    map literal_of l.made.items
    ≡ map literal_of l.initial.made.items
    ++ map (literal_instance (g.S.LendsTerms.meaning l.parent.bind.now)) (take (l.index - l.start) (drop l.start (g.L.LendsLiterals.meaning l.parent.literals.now)))
