-- The program's terms, formulas and annotated formulas as trees over names.
use Rattle.std.specs.Prelude.{true, false}
use Rattle.tptp_tree.specs.Term.{TermTree, variable, application, terms_of}
use Rattle.tptp_tree.specs.Formula.{implies, implied, equivalent, different, nor, nand, for_all, exists_some, FormulaTree, truth, falsity, predicate, equation, negation, conjunction, disjunction, connected, quantified, formulas_of}
use Rattle.tptp_tree.specs.Entries.{AnnotatedTree}
use Rattle.tptp_tree.specs.declared.term.TreeTerm.{TreeTerm}
use Rattle.tptp_tree.specs.declared.term.TreeTerm.TheVariants.{Var, App}
use Rattle.tptp_tree.specs.declared.formula.Formula.{Formula}
use Rattle.tptp_tree.specs.declared.formula.Formula.TheVariants.{True, False, Pred, Equal, NotEqual, Not, And, Or, Implies, Implied, Iff, Xor, Nor, Nand, All, Ex}
use Rattle.tptp_tree.specs.declared.problem.Annotated.{Annotated}

-- the tree of a term of the program
abbrev pub term_of : TreeTerm → TermTree
term_of (Var x) = variable x
term_of (App f ts) = application f (terms_of ts)

-- the tree of a formula of the program
abbrev pub formula_of : Formula → FormulaTree
formula_of True = truth
formula_of False = falsity
formula_of (Pred p ts) = predicate p (terms_of ts)
formula_of (Equal s t) = equation true (term_of s) (term_of t)
formula_of (NotEqual s t) = equation false (term_of s) (term_of t)
formula_of (Not f) = negation f
formula_of (And fs) = conjunction (formulas_of fs)
formula_of (Or fs) = disjunction (formulas_of fs)
formula_of (Implies f g) = connected implies f g
formula_of (Implied f g) = connected implied f g
formula_of (Iff f g) = connected equivalent f g
formula_of (Xor f g) = connected different f g
formula_of (Nor f g) = connected nor f g
formula_of (Nand f g) = connected nand f g
formula_of (All xs f) = quantified for_all xs f
formula_of (Ex xs f) = quantified exists_some xs f

-- the content of an annotated formula of the program, without its place
abbrev pub entry_of : Annotated → AnnotatedTree
entry_of a = record { name = a.name; role = a.role; is_clause = a.clause; formula = formula_of a.formula }
