-- First-order formulas over names, as trees.
use Rattle.std.specs.Prelude.{ℕ, ◌+◌, Bool, true, false, List, [], ◌∷◌}
use Rattle.tptp_tree.specs.Term.{TermTree, TermTrees}

-- `=>`, `<=`, `<=>`, `<~>`, `~|` and `~&`
pub data BinaryConnective : Type 0 where
  implies : BinaryConnective
  implied : BinaryConnective
  equivalent : BinaryConnective
  different : BinaryConnective
  nor : BinaryConnective
  nand : BinaryConnective

-- `!` and `?`
pub data Quantifier : Type 0 where
  for_all : Quantifier
  exists_some : Quantifier

-- A formula: `$true`, `$false`, a predicate with its arguments, an equation with its sign, or one made of other formulas. A list of
-- operands and a list of variables may have any length here.
mutual
  pub data FormulaTree : Type 0 where
    truth : FormulaTree
    falsity : FormulaTree
    predicate : List ℕ → TermTrees → FormulaTree
    equation : Bool → TermTree → TermTree → FormulaTree
    negation : FormulaTree → FormulaTree
    conjunction : FormulaTrees → FormulaTree
    disjunction : FormulaTrees → FormulaTree
    connected : BinaryConnective → FormulaTree → FormulaTree → FormulaTree
    quantified : Quantifier → List (List ℕ) → FormulaTree → FormulaTree

  pub data FormulaTrees : Type 0 where
    no_formulas : FormulaTrees
    formula_then : FormulaTree → FormulaTrees → FormulaTrees

-- the formula for the sign true, its negation for the sign false
abbrev pub with_sign : Bool → FormulaTree → FormulaTree
with_sign true f = f
with_sign false f = negation f

-- the trees of a list
abbrev pub formulas_of : List FormulaTree → FormulaTrees
formulas_of [] = no_formulas
formulas_of (f ∷ fs) = formula_then f (formulas_of fs)

-- the list of trees
abbrev pub list_of_formulas : FormulaTrees → List FormulaTree
list_of_formulas no_formulas = []
list_of_formulas (formula_then f fs) = f ∷ list_of_formulas fs

-- how many formulas there are in a formula, itself included: 4 in `~p & q`
abbrev mutual
  pub formula_size : FormulaTree → ℕ
  formula_size truth = 1
  formula_size falsity = 1
  formula_size (predicate p ts) = 1
  formula_size (equation positive s t) = 1
  formula_size (negation f) = 1 + formula_size f
  formula_size (conjunction fs) = 1 + formulas_size fs
  formula_size (disjunction fs) = 1 + formulas_size fs
  formula_size (connected c f g) = 1 + (formula_size f + formula_size g)
  formula_size (quantified q xs f) = 1 + formula_size f

  pub formulas_size : FormulaTrees → ℕ
  formulas_size no_formulas = 0
  formulas_size (formula_then f fs) = formula_size f + formulas_size fs
