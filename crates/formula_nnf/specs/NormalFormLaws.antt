-- A law of normal forms.
use Rattle.std.specs.Prelude.{◌≡◌, Bool, true}
use Rattle.tptp_tree.specs.Formula.{FormulaTree}
use Rattle.signature.specs.Environment.{Environment}
use Rattle.signature.specs.Clausal.{SymbolNumbers, Made, clauses_of}
use Rattle.formula_nnf.specs.NormalForm.{normal_form}

-- The work on a normal form gives the clauses of the formula, and makes the symbols and defining
-- clauses of the formula.
abbrev pub NormalFormKeepsClauses : Type 0
NormalFormKeepsClauses =
    (n : SymbolNumbers) (f : FormulaTree) (sign : Bool) (env : Environment) (m : Made)
    → clauses_of n (normal_form f sign) true env m ≡ clauses_of n f sign env m
