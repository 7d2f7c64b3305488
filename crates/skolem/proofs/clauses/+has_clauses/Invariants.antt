use Rattle.std.proofs.Common.{◌≡◌, ◌+◌, ◌*◌, map, drop}
use Rattle.tptp_tree.specs.Formula.{formula_size, formulas_size, formulas_of}
use Rattle.formula_nnf.specs.Shape.{nnf_tree}
use Rattle.skolem.specs.Heavy.{some_form_has_clauses, all_forms_have_clauses}
use Rattle.skolem.proofs.clauses.+has_clauses.Given as goal

abbrev pub decreases-has_clauses : goal.decreases-has_clauses
decreases-has_clauses l = 2 * formula_size (nnf_tree l.form.now)

abbrev pub decreases-some_have_clauses : goal.decreases-some_have_clauses
decreases-some_have_clauses l = 2 * formulas_size (formulas_of (map nnf_tree l.forms.now)) + 1

abbrev pub decreases-all_have_clauses : goal.decreases-all_have_clauses
decreases-all_have_clauses l = 2 * formulas_size (formulas_of (map nnf_tree l.forms.now)) + 1

abbrev pub invariant-some_have_clauses-loop-form : goal.invariant-some_have_clauses-loop-form
invariant-some_have_clauses-loop-form l =
    some_form_has_clauses (formulas_of (map nnf_tree (drop l.form-index l.forms))) ≡ some_form_has_clauses (formulas_of (map nnf_tree l.forms))

abbrev pub invariant-all_have_clauses-loop-form : goal.invariant-all_have_clauses-loop-form
invariant-all_have_clauses-loop-form l =
    all_forms_have_clauses (formulas_of (map nnf_tree (drop l.form-index l.forms))) ≡ all_forms_have_clauses (formulas_of (map nnf_tree l.forms))
