-- What a unification finds, as contracts see it: the variables of the two terms with the trees that they become (a unifier in solved
-- form, after Martelli and Montanari 1982).
use Rattle.std.specs.Prelude.{ℕ, ◌+◌, ◌*◌, Bool, true, false, List, ◌++◌, map}
use Rattle.fol_base.specs.Tree.{Tree, tree_variables}
use Rattle.fol_base.specs.Instance.{Substitution}
use Rattle.fol_base.specs.declared.clause.Side.{Side}
use Rattle.fol_base.specs.declared.clause.Side.TheVariants.{Left, Right}
use Rattle.unifier.specs.Matching.{by_pairs}

-- whether the variables of the two sides are different ones; and a pair for each variable of the two terms, also for one that stands
-- for itself, by its number among the variables of both sides
pub record SolvedForm : Type 0 where
  pub apart : Bool
  pub pairs : List (ℕ × Tree)

-- the number of a side's variable among the variables of both: where the sides are taken apart, the left ones get the
-- even numbers and the right ones the odd ones
abbrev pub code_of : Bool → Side → ℕ → ℕ
code_of true Left v = 2 * v
code_of true Right v = 2 * v + 1
code_of false side v = v

-- the numbers of the variables of two terms, with repetitions
abbrev pub codes_of : Bool → Tree → Tree → List ℕ
codes_of apart s t = map (code_of apart Left) (tree_variables s) ++ map (code_of apart Right) (tree_variables t)

-- a side's part of a substitution of both
abbrev pub of_side : Bool → Side → Substitution → Substitution
of_side apart side θ v = θ (code_of apart side v)

-- what stands for a variable of both sides
abbrev pub joint : SolvedForm → Substitution
joint found = by_pairs found.pairs

-- what stands for a side's variables
abbrev pub substitution_of : SolvedForm → Side → Substitution
substitution_of found side = of_side found.apart side (joint found)
