-- A law of the clausal form.
use Rattle.std.specs.Prelude.{◌≡◌, ◌+◌, Bool, List, length}
use Rattle.tptp_tree.specs.Formula.{FormulaTree}
use Rattle.tptp_tree.specs.declared.problem.Annotated.{Annotated}
use Rattle.signature.specs.Environment.{Environment}
use Rattle.signature.specs.Clausal.{SymbolNumbers, Made, clauses_of}
use Rattle.signature.specs.Form.{skolem_count, problem_skolem_count, problem_form}

-- The work on a formula makes as many Skolem symbols as are counted, so the naming symbols follow the last of them.
abbrev pub SkolemSymbolsAreCounted : Type 0
SkolemSymbolsAreCounted =
    (n : SymbolNumbers) (f : FormulaTree) (sign : Bool) (env : Environment) (m : Made)
    → length (clauses_of n f sign env m).made.skolem_arities ≡ length m.skolem_arities + skolem_count f sign

-- and so for a whole problem
abbrev pub SkolemSymbolsOfProblemAreCounted : Type 0
SkolemSymbolsOfProblemAreCounted =
    (fs : List Annotated) → length (problem_form fs).made.skolem_arities ≡ problem_skolem_count fs
