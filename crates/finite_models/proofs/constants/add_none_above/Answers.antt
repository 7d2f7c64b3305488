use Rattle.std.proofs.Common.{◌+◌, List, subst, sym, refl, arith}
use Rattle.sat_core.specs.Clause.{PropClause}
use Rattle.finite_models.specs.Constants.{has_none_above}
use Rattle.finite_models.specs.Translation.{Adds}
use Rattle.finite_models.proofs.AboutLoops.ConstantLemmas.{value-refused, value-allowed}
use Rattle.finite_models.proofs.constants.add_none_above.Goals as goal
use Rattle.finite_models.proofs.constants.add_none_above.Goals.{then-value-most+in_ok-add_not, else-value-most}

pub loop-value-preserved : goal.loop-value-preserved
loop-value-preserved c =
    elim c.if-value-most.branch [
      | then-value-most+in_ok-add_not w ↦
          subst
          (λ (cs : List PropClause).
          Adds (c.args.first + c.args.size) c.args.clauses.now cs (has_none_above (c.loop-value.value + 1) c.args.first c.args.most))
          (sym w.clauses-is)
          (value-refused c.args.first c.args.most (c.args.first + c.args.size) c.loop-value.value _ _ _ _ c.loop-value.invariant
          w.in_ok-add_not.ensures refl (omega (arith, c.loop-value-test.true)) w.if-value-most.true)
      | else-value-most w ↦
          subst
          (λ (cs : List PropClause).
          Adds (c.args.first + c.args.size) c.args.clauses.now cs (has_none_above (c.loop-value.value + 1) c.args.first c.args.most))
          (sym w.clauses-is)
          (value-allowed c.args.first c.args.most (c.args.first + c.args.size) c.loop-value.value _ _ c.loop-value.invariant
          (omega (arith, w.if-value-most.false)))
    ]
