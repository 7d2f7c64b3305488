use Rattle.std.proofs.Common.{◌≡◌, ◌-◌, ◌^◌, min, take}
use Rattle.std.specs.Prelude.{sum_by}
use Rattle.fol_base.specs.Clause.{literal_size}
use Rattle.fol_base.specs.Ground.{literals_instance}
use Rattle.kernel_steps.proofs.conclude.bound_size.Given as goal

abbrev pub invariant-loop-index : goal.invariant-loop-index
invariant-loop-index g l =
    l.total ≡ min (sum_by literal_size (literals_instance (g.S.LendsTerms.meaning l.bind) (take l.index (g.L.LendsLiterals.meaning l.literals)))) (2 ^ 64 - 1)
