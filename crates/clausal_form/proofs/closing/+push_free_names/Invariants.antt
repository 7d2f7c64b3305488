use Rattle.std.proofs.Common.{◌≡◌, ◌++◌, ◌+◌, ◌*◌, map, drop}
use Rattle.tptp_tree.specs.Formula.{formula_size, formulas_size, formulas_of}
use Rattle.signature.specs.Environment.{all_free_names}
use Rattle.tptp_tree.specs.Shape.{formula_of}
use Rattle.clausal_form.proofs.closing.+push_free_names.Given as goal

abbrev pub decreases-push_free_names : goal.decreases-push_free_names
decreases-push_free_names l = 2 * formula_size (formula_of l.formula.now)

abbrev pub decreases-push_all_free_names : goal.decreases-push_all_free_names
decreases-push_all_free_names l = 2 * formulas_size (formulas_of (map formula_of l.formulas.now)) + 1

abbrev pub invariant-push_all_free_names-loop-formula : goal.invariant-push_all_free_names-loop-formula
invariant-push_all_free_names-loop-formula l =
    l.names ++ all_free_names (formulas_of (map formula_of (drop l.formula-index l.formulas))) ≡ l.initial.names ++ all_free_names (formulas_of (map formula_of l.formulas))
