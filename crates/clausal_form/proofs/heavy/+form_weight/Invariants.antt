use Rattle.std.proofs.Common.{◌≡◌, ◌≤◌, ◌+◌, ◌-◌, ◌*◌, ◌^◌, ◌&&◌, ◌||◌, map, drop}
use Rattle.tptp_tree.specs.Formula.{formula_size, formulas_size, formulas_of}
use Rattle.formula_nnf.specs.Shape.{nnf_tree}
use Rattle.skolem.specs.Heavy.{some_form_has_clauses, all_forms_have_clauses}
use Rattle.clausal_form.specs.Heavy.{some_heavy_form, written_totals}
use Rattle.plain_types.specs.Capped.{capped}
use Rattle.clausal_form.proofs.heavy.+form_weight.Given as goal

abbrev pub decreases-form_weight : goal.decreases-form_weight
decreases-form_weight l = 2 * formula_size (nnf_tree l.form.now)

abbrev pub decreases-form_weights : goal.decreases-form_weights
decreases-form_weights l = 2 * formulas_size (formulas_of (map nnf_tree l.forms.now)) + 1

abbrev pub invariant-form_weights-loop-form : goal.invariant-form_weights-loop-form
invariant-form_weights-loop-form l =
    ((l.weights.some || some_form_has_clauses (formulas_of (map nnf_tree (drop l.form-index l.forms)))) ≡ some_form_has_clauses (formulas_of (map nnf_tree l.forms)))
    × (((l.weights.all && all_forms_have_clauses (formulas_of (map nnf_tree (drop l.form-index l.forms)))) ≡ all_forms_have_clauses (formulas_of (map nnf_tree l.forms)))
    × (((l.weights.heavy || some_heavy_form (formulas_of (map nnf_tree (drop l.form-index l.forms)))) ≡ some_heavy_form (formulas_of (map nnf_tree l.forms)))
    × ((capped (l.weights.symbols + written_totals (formulas_of (map nnf_tree (drop l.form-index l.forms)))) ≡ capped (written_totals (formulas_of (map nnf_tree l.forms))))
    × (l.weights.symbols ≤ 2 ^ 64 - 1))))
