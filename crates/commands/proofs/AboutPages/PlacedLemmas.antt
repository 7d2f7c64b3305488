-- A problem's formulas are told by their trees, files and places.
use Rattle.std.proofs.Common.{◌≡◌, List, [], ◌∷◌, map, refl, ap, ap₂, sym, ◌∙◌}
use Rattle.std.specs.Prelude.{true, false}
use Rattle.tptp_tree.specs.Term.{TermTree, variable, application, terms_of, list_of_terms}
use Rattle.tptp_tree.specs.Formula.{FormulaTree, truth, falsity, predicate, equation, negation, conjunction, disjunction, connected, quantified, implies, implied, equivalent, different, nor, nand, for_all, exists_some, formulas_of, list_of_formulas}
use Rattle.tptp_tree.specs.Shape.{term_of, formula_of}
use Rattle.tptp_tree.specs.declared.term.TreeTerm.{TreeTerm}
use Rattle.tptp_tree.specs.declared.term.TreeTerm.TheVariants.{Var, App}
use Rattle.tptp_tree.specs.declared.formula.Formula.{Formula}
use Rattle.tptp_tree.specs.declared.formula.Formula.TheVariants.{True, False, Pred, Equal, NotEqual, Not, And, Or, Implies, Implied, Iff, Xor, Nor, Nand, All, Ex}
use Rattle.tptp_tree.specs.declared.problem.Annotated.{Annotated}
use Rattle.tptp_problem.specs.Formulas.{Placed, placed}

-- ---- from trees back to what they are of

term_back : TermTree → TreeTerm
term_back (variable x) = Var x
term_back (application f ts) = App f (list_of_terms ts)

terms-back : (ts : List TermTree) → list_of_terms (terms_of ts) ≡ ts
terms-back [] = refl
terms-back (t ∷ ts) = ap (λ (us : List TermTree). t ∷ us) (terms-back ts)

term-back : (t : TreeTerm) → term_back (term_of t) ≡ t
unfolding term_back
term-back (Var x) = refl
term-back (App f ts) = ap (App f) (terms-back ts)

formula_back : FormulaTree → Formula
formula_back truth = True
formula_back falsity = False
formula_back (predicate p ts) = Pred p (list_of_terms ts)
formula_back (equation true s t) = Equal (term_back s) (term_back t)
formula_back (equation false s t) = NotEqual (term_back s) (term_back t)
formula_back (negation f) = Not f
formula_back (conjunction fs) = And (list_of_formulas fs)
formula_back (disjunction fs) = Or (list_of_formulas fs)
formula_back (connected implies f g) = Implies f g
formula_back (connected implied f g) = Implied f g
formula_back (connected equivalent f g) = Iff f g
formula_back (connected different f g) = Xor f g
formula_back (connected nor f g) = Nor f g
formula_back (connected nand f g) = Nand f g
formula_back (quantified for_all xs f) = All xs f
formula_back (quantified exists_some xs f) = Ex xs f

formulas-back : (fs : List FormulaTree) → list_of_formulas (formulas_of fs) ≡ fs
formulas-back [] = refl
formulas-back (f ∷ fs) = ap (λ (gs : List FormulaTree). f ∷ gs) (formulas-back fs)

formula-back : (f : Formula) → formula_back (formula_of f) ≡ f
unfolding formula_back
formula-back True = refl
formula-back False = refl
formula-back (Pred p ts) = ap (Pred p) (terms-back ts)
formula-back (Equal s t) = ap₂ Equal (term-back s) (term-back t)
formula-back (NotEqual s t) = ap₂ NotEqual (term-back s) (term-back t)
formula-back (Not f) = refl
formula-back (And fs) = ap And (formulas-back fs)
formula-back (Or fs) = ap Or (formulas-back fs)
formula-back (Implies f g) = refl
formula-back (Implied f g) = refl
formula-back (Iff f g) = refl
formula-back (Xor f g) = refl
formula-back (Nor f g) = refl
formula-back (Nand f g) = refl
formula-back (All xs f) = refl
formula-back (Ex xs f) = refl

annotated_back : Placed → Annotated
annotated_back p = record {
  name = p.tree.name;
  role = p.tree.role;
  clause = p.tree.is_clause;
  formula = formula_back p.tree.formula;
  file = p.file;
  place = p.place;
}

annotated-back : (a : Annotated) → annotated_back (placed a) ≡ a
unfolding annotated_back
annotated-back a = ap (λ (f : Formula). record a { formula = f }) (formula-back a.formula)

all-back : (fs : List Annotated) → map annotated_back (map placed fs) ≡ fs
all-back [] = refl
all-back (a ∷ fs) = ap₂ (λ (x : Annotated) (xs : List Annotated). x ∷ xs) (annotated-back a) (all-back fs)

-- ---- so they are one

pub placed-one : (f g : List Annotated) → map placed f ≡ map placed g → f ≡ g
placed-one f g e = sym (all-back f) ∙ ap (map annotated_back) e ∙ all-back g
