-- A law of clause counts.
use Rattle.std.specs.Prelude.{◌≡◌, ◌+◌, Bool, length}
use Rattle.tptp_tree.specs.Formula.{FormulaTree}
use Rattle.signature.specs.Environment.{Environment}
use Rattle.signature.specs.Clausal.{SymbolNumbers, Made, Worked, clauses_of}
use Rattle.formula_nnf.specs.ClauseCount.{ClauseCount, clause_counts}

-- The work on a formula gives clauses, and adds defining clauses to those made before, as many as a
-- count says.
pub record IsCounted (w : Worked) (m : Made) (c : ClauseCount) : Type 0 where
  pub clauses : length w.clauses ≡ c.clauses
  pub defining : length w.made.defining ≡ length m.defining + c.defining

-- The work on a formula gives as many clauses, and as many that define names, as are counted.
abbrev pub ClausesAreCounted : Type 0
ClausesAreCounted =
    (n : SymbolNumbers) (f : FormulaTree) (sign : Bool) (env : Environment) (m : Made)
    → IsCounted (clauses_of n f sign env m) m (clause_counts f sign)
