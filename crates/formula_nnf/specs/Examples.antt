-- The formulas of the worked examples.
use Rattle.std.specs.Prelude.{ℕ, zero, suc, codes}
use Rattle.tptp_tree.specs.Term.{no_terms}
use Rattle.tptp_tree.specs.Formula.{equivalent, FormulaTree, predicate, conjunction, connected, FormulaTrees, no_formulas, formula_then}

abbrev pub p : FormulaTree
p = predicate (codes "p") no_terms

abbrev pub q : FormulaTree
q = predicate (codes "q") no_terms

-- n equivalences, each in the next
abbrev pub nested : ℕ → FormulaTree
nested zero = p
nested (suc n) = connected equivalent (nested n) p

-- n conjunctions of p and q
abbrev pub pairs : ℕ → FormulaTrees
pairs zero = no_formulas
pairs (suc n) = formula_then (conjunction (formula_then p (formula_then q no_formulas))) (pairs n)
