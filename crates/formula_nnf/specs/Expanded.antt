-- The atoms and quantified variables of a formula after each equivalence is written out, which makes each of its parts stand twice.
use Rattle.std.specs.Prelude.{ℕ, ◌+◌, ◌*◌, length}
use Rattle.tptp_tree.specs.Formula.{BinaryConnective, implies, implied, equivalent, different, nor, nand, FormulaTree, truth, falsity, predicate, equation, negation, conjunction, disjunction, connected, quantified, FormulaTrees, no_formulas, formula_then}

-- how often each part stands
abbrev pub times_written : BinaryConnective → ℕ
times_written implies = 1
times_written implied = 1
times_written equivalent = 2
times_written different = 2
times_written nor = 1
times_written nand = 1

abbrev mutual
  pub expanded_count : FormulaTree → ℕ
  expanded_count truth = 1
  expanded_count falsity = 1
  expanded_count (predicate p ts) = 1
  expanded_count (equation positive s t) = 1
  expanded_count (negation f) = expanded_count f
  expanded_count (conjunction fs) = all_expanded_count fs
  expanded_count (disjunction fs) = all_expanded_count fs
  expanded_count (connected c f g) = times_written c * (expanded_count f + expanded_count g)
  expanded_count (quantified q xs f) = length xs + expanded_count f

  pub all_expanded_count : FormulaTrees → ℕ
  all_expanded_count no_formulas = 0
  all_expanded_count (formula_then f fs) = expanded_count f + all_expanded_count fs
