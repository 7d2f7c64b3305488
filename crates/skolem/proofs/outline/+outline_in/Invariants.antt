use Rattle.std.proofs.Common.{◌≡◌, ◌+◌, ◌*◌, map, drop}
use Rattle.tptp_tree.specs.Formula.{formula_size, formulas_size, formulas_of}
use Rattle.signature.specs.Occurrences.{formulas_symbols}
use Rattle.formula_nnf.specs.Shape.{nnf_tree}
use Rattle.skolem.specs.Skolemized.{skolemized_list, numbers_after, AreKnown}
use Rattle.skolem.specs.Progress.{environment_of, made_of}
use Rattle.skolem.specs.Outline.{constant_outline, outlines_of}
use Rattle.skolem.proofs.AboutFormulas.FormLemmas.{made_left}
use Rattle.skolem.proofs.AboutFormulas.OutlineLemmas.{OutlineLeft}
use Rattle.skolem.proofs.outline.+outline_in.Given as goal

abbrev pub decreases-outline_in : goal.decreases-outline_in
decreases-outline_in l = 2 * formula_size (nnf_tree l.form.now)

abbrev pub decreases-outline_in_all : goal.decreases-outline_in_all
decreases-outline_in_all l = 2 * formulas_size (formulas_of (map nnf_tree l.forms.now)) + 1

abbrev pub invariant-outline_in_all-loop-form : goal.invariant-outline_in_all-loop-form
invariant-outline_in_all-loop-form l =
    OutlineLeft l.signature l.forms l.form-index l.progress l.inside l.listed l.began l.total
    (outlines_of l.listed l.began (constant_outline l.listed)
    (skolemized_list (numbers_after l.signature) (formulas_of (map nnf_tree l.forms)) (environment_of l.initial.progress.bindings) (made_of l.initial.progress)).matrices)
    × ((made_left l.signature l.forms l.form-index l.progress
    ≡ (skolemized_list (numbers_after l.signature) (formulas_of (map nnf_tree l.forms)) (environment_of l.initial.progress.bindings) (made_of l.initial.progress)).made)
    × ((l.progress.bindings ≡ l.initial.progress.bindings)
    × AreKnown l.signature (formulas_symbols (formulas_of (map nnf_tree (drop l.form-index l.forms))))))
