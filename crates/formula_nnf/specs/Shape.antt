-- The program's normal forms as formulas, in which negation stands before predicates alone.
use Rattle.tptp_tree.specs.Term.{terms_of}
use Rattle.tptp_tree.specs.Shape.{term_of}
use Rattle.tptp_tree.specs.Formula.{for_all, exists_some, FormulaTree, truth, falsity, predicate, equation, with_sign, conjunction, disjunction, quantified, formulas_of}
use Rattle.formula_nnf.specs.declared.form.Nnf.{Nnf}
use Rattle.formula_nnf.specs.declared.form.Nnf.TheVariants.{True, False, Pred, Equal, And, Or, All, Ex}

abbrev pub nnf_tree : Nnf → FormulaTree
nnf_tree True = truth
nnf_tree False = falsity
nnf_tree (Pred positive p ts) = with_sign positive (predicate p.now (terms_of ts.now))
nnf_tree (Equal positive s t) = equation positive (term_of s.now) (term_of t.now)
nnf_tree (And fs) = conjunction (formulas_of fs)
nnf_tree (Or fs) = disjunction (formulas_of fs)
nnf_tree (All xs f) = quantified for_all xs.now f
nnf_tree (Ex xs f) = quantified exists_some xs.now f
