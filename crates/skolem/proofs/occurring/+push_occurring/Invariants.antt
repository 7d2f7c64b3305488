use Rattle.std.proofs.Common.{◌≡◌, ◌++◌, ◌+◌, ◌*◌, map, drop}
use Rattle.tptp_tree.specs.Formula.{formula_size, formulas_size, formulas_of}
use Rattle.formula_nnf.specs.Shape.{nnf_tree}
use Rattle.skolem.specs.Progress.{environment_of, all_occurring, outer_variables}
use Rattle.skolem.proofs.occurring.+push_occurring.Given as goal

abbrev pub decreases-push_occurring : goal.decreases-push_occurring
decreases-push_occurring l = 2 * formula_size (nnf_tree l.form.now)

abbrev pub decreases-push_all_occurring : goal.decreases-push_all_occurring
decreases-push_all_occurring l = 2 * formulas_size (formulas_of (map nnf_tree l.forms.now)) + 1

abbrev pub decreases-push_occurring_under : goal.decreases-push_occurring_under
decreases-push_occurring_under l = 2 * formula_size l.body.now + 1

abbrev pub invariant-push_all_occurring-loop-form : goal.invariant-push_all_occurring-loop-form
invariant-push_all_occurring-loop-form l =
    (outer_variables l.outer l.initial.bindings l.places.items ++ all_occurring (formulas_of (map nnf_tree (drop l.form-index l.forms))) (environment_of l.initial.bindings)
    ≡ outer_variables l.outer l.initial.bindings l.initial.places.items ++ all_occurring (formulas_of (map nnf_tree l.forms)) (environment_of l.initial.bindings))
    × (l.bindings ≡ l.initial.bindings)
