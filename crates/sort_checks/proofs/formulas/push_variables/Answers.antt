use Rattle.std.proofs.Common.{◌+◌, map, drop, ap, ◌∙◌}
use Rattle.typed_tree.specs.Shape.{variable_of}
use Rattle.typed_problem.specs.SortFaults.{inside}
use Rattle.sort_checks.specs.Lent.{declared_among}
use Rattle.sort_checks.proofs.CauseLemmas.{variable-step}
use Rattle.sort_checks.proofs.ScopeLemmas.{inside-more}
use Rattle.sort_checks.proofs.formulas.push_variables.Goals as goal

pub loop-variable-preserved : goal.loop-variable-preserved
loop-variable-preserved c = record {
  causes =
      variable-step (declared_among c.args.table.now) c.args.variables.now c.loop-variable.variable-index c.variable-item.result c.loop-variable.causes.items
      c.push.new.self.items c.push_sort.new.causes.items _ c.loop-variable-test.true c.variable-item.is c.in_ok-push.ensures.items c.in_ok-push_sort.ensures
      c.loop-variable.invariant.causes;
  scope =
      ap (inside (map variable_of (drop (c.loop-variable.variable-index + 1) c.args.variables.now))) c.in_ok-push-2.ensures
      ∙ inside-more c.args.variables.now c.loop-variable.variable-index c.variable-item.result c.loop-variable.scope c.loop-variable-test.true c.variable-item.is
      ∙ c.loop-variable.invariant.scope;
}
