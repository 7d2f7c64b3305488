-- Lists of formulas, as a walk over them works them off.
use Rattle.std.proofs.Common.{◌≡◌, ℕ, ◌+◌, ◌<◌, ◌≤◌, Bool, List, [], ◌∷◌, ◌++◌, length, map, drop, get_or, refl, ap, sym, ◌∙◌, append_assoc, append-nil}
use Rattle.tptp_tree.specs.Formula.{FormulaTree, FormulaTrees, no_formulas, formula_then, formulas_of, list_of_formulas}
use Rattle.tptp_tree.specs.Shape.{formula_of}
use Rattle.tptp_tree.specs.declared.formula.Formula.{Formula}
use Rattle.formula_nnf.specs.Expanded.{expanded_count, all_expanded_count}
use Rattle.formula_nnf.specs.NormalForm.{normal_form, normal_forms}
use Rattle.list_lemmas.proofs.Places.{drop-item, drop-all}

-- one more formula is counted
pub expanded-step :
    (fs : List Formula) (i : ℕ) (f : Formula)
    → i < length fs → f ≡ get_or fs i f
    → all_expanded_count (formulas_of (map formula_of (drop i fs)))
    ≡ expanded_count (formula_of f) + all_expanded_count (formulas_of (map formula_of (drop (i + 1) fs)))
expanded-step fs i f h e = ap (λ gs. all_expanded_count (formulas_of (map formula_of gs))) (drop-item fs i f h e)

pub expanded-end : (fs : List Formula) (i : ℕ) → length fs ≤ i → all_expanded_count (formulas_of (map formula_of (drop i fs))) ≡ 0
expanded-end fs i h = ap (λ gs. all_expanded_count (formulas_of (map formula_of gs))) (drop-all fs i h)

pub listed : (fs : FormulaTrees) → formulas_of (list_of_formulas fs) ≡ fs
listed no_formulas = refl
listed (formula_then f fs) = ap (formula_then f) (listed fs)

abbrev pub forms_left : List Formula → ℕ → Bool → List FormulaTree
forms_left fs i sign = list_of_formulas (normal_forms (formulas_of (map formula_of (drop i fs))) sign)

-- one more normal form is made
pub forms-step :
    (made new : List FormulaTree) (fs : List Formula) (i : ℕ) (sign : Bool) (f : Formula) (form : FormulaTree) (all : FormulaTrees)
    → i < length fs → f ≡ get_or fs i f → form ≡ normal_form (formula_of f) sign → new ≡ made ++ form ∷ []
    → formulas_of (made ++ forms_left fs i sign) ≡ all
    → formulas_of (new ++ forms_left fs (i + 1) sign) ≡ all
forms-step made new fs i sign f form all h e g n m =
    ap (λ xs. formulas_of (xs ++ forms_left fs (i + 1) sign)) n
    ∙ ap formulas_of (append_assoc made (form ∷ []) (forms_left fs (i + 1) sign))
    ∙ ap (λ x. formulas_of (made ++ x ∷ forms_left fs (i + 1) sign)) g
    ∙ ap (λ gs. formulas_of (made ++ list_of_formulas (normal_forms (formulas_of (map formula_of gs)) sign))) (sym (drop-item fs i f h e))
    ∙ m

pub forms-end :
    (made : List FormulaTree) (fs : List Formula) (i : ℕ) (sign : Bool) (all : FormulaTrees)
    → length fs ≤ i → formulas_of (made ++ forms_left fs i sign) ≡ all → formulas_of made ≡ all
forms-end made fs i sign all h m =
    ap formulas_of (sym (append-nil made))
    ∙ ap (λ gs. formulas_of (made ++ list_of_formulas (normal_forms (formulas_of (map formula_of gs)) sign))) (sym (drop-all fs i h))
    ∙ m
