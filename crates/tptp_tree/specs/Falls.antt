-- Each member of a list is smaller than the list, which is why a recursion down a term or a formula ends.
use Rattle.std.specs.Prelude.{◌≤◌, List, [], ◌∷◌, map}
use Rattle.std.proofs.Common.{arith}
use denote.Param.Weighed.{most}
use Rattle.tptp_tree.specs.Term.{term_size, terms_size, terms_of}
use Rattle.tptp_tree.specs.Formula.{formula_size, formulas_size, formulas_of}
use Rattle.tptp_tree.specs.Shape.{term_of, formula_of}
use Rattle.tptp_tree.specs.declared.term.TreeTerm.{TreeTerm}
use Rattle.tptp_tree.specs.declared.term.TreeTerm.TheVariants.{Var, App}
use Rattle.tptp_tree.specs.declared.term.TreeTerms.TheDeep.{deep-TreeTerm}
use Rattle.tptp_tree.specs.declared.formula.Formula.{Formula}
use Rattle.tptp_tree.specs.declared.formula.Formula.TheVariants.{True, False, Pred, Equal, NotEqual, Not, And, Or, Implies, Implied, Iff, Xor, Nor, Nand, All, Ex}
use Rattle.tptp_tree.specs.declared.formula.FormulaBox.TheDeep.{deep-Formula}

pub deep-TreeTerm-≤ : (t : TreeTerm) → deep-TreeTerm t ≤ term_size (term_of t)
deep-TreeTerm-≤ (Var x) = omega arith
deep-TreeTerm-≤ (App f ts) = omega arith

pub most-deep-TreeTerm-≤ : (ts : List TreeTerm) → most deep-TreeTerm ts ≤ terms_size (terms_of (map term_of ts))
most-deep-TreeTerm-≤ [] = omega arith
most-deep-TreeTerm-≤ (t ∷ ts) = omega (arith, deep-TreeTerm-≤ t, most-deep-TreeTerm-≤ ts)

pub deep-Formula-≤ : (f : Formula) → deep-Formula f ≤ formula_size (formula_of f)
deep-Formula-≤ True = omega arith
deep-Formula-≤ False = omega arith
deep-Formula-≤ (Pred p ts) = omega arith
deep-Formula-≤ (Equal s t) = omega arith
deep-Formula-≤ (NotEqual s t) = omega arith
deep-Formula-≤ (Not f) = omega arith
deep-Formula-≤ (And fs) = omega arith
deep-Formula-≤ (Or fs) = omega arith
deep-Formula-≤ (Implies f g) = omega arith
deep-Formula-≤ (Implied f g) = omega arith
deep-Formula-≤ (Iff f g) = omega arith
deep-Formula-≤ (Xor f g) = omega arith
deep-Formula-≤ (Nor f g) = omega arith
deep-Formula-≤ (Nand f g) = omega arith
deep-Formula-≤ (All xs f) = omega arith
deep-Formula-≤ (Ex xs f) = omega arith

pub most-deep-Formula-≤ : (fs : List Formula) → most deep-Formula fs ≤ formulas_size (formulas_of (map formula_of fs))
most-deep-Formula-≤ [] = omega arith
most-deep-Formula-≤ (f ∷ fs) = omega (arith, deep-Formula-≤ f, most-deep-Formula-≤ fs)
