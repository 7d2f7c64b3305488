-- The problems and interpretations of the worked examples.
use Rattle.std.specs.Prelude.{ℕ, true, List, [], ◌∷◌}
use Rattle.tptp_tree.specs.Term.{variable}
use Rattle.tptp_tree.specs.Formula.{FormulaTree, for_all, exists_some, quantified, negation, equation}
use Rattle.tptp_tree.specs.declared.problem.Annotated.{Annotated}
use Rattle.fol_base.specs.Interpretation.{Interpretation}
use Rattle.signature.specs.Examples.{fof_axiom, conjecture, x, y, p_of, r_of, one_of}

-- `! [X] : ( p(X) | ? [X] : r(X,X) )`: the inner quantifier hides the outer one
abbrev pub hiding : FormulaTree
hiding = quantified for_all (x ∷ []) (one_of (p_of x ∷ quantified exists_some (x ∷ []) (r_of x x) ∷ []))

abbrev pub hiding_alone : List Annotated
hiding_alone = fof_axiom hiding ∷ []

-- two values, of which p holds for 1 alone, and r for 1 with itself alone
abbrev pub p_or_loop : Interpretation
p_or_loop =
    record {
      size = 2;
      rows = record { symbol = 1; arguments = 1 ∷ []; value = 1 } ∷ record { symbol = 2; arguments = 1 ∷ 1 ∷ []; value = 1 } ∷ [];
    }

-- and 1 is the value of the Skolem constant, which is number 3; without the row it is 0
abbrev pub p_or_witness : Interpretation
p_or_witness = record { size = 2; rows = record { symbol = 3; arguments = []; value = 1 } ∷ p_or_loop.rows }

-- these rows over three values
abbrev pub three_values : Interpretation
three_values = record { size = 3; rows = p_or_loop.rows }

-- p holds for 0 too
abbrev pub p_for_both : Interpretation
p_for_both = record { size = 2; rows = record { symbol = 1; arguments = 0 ∷ []; value = 1 } ∷ p_or_loop.rows }

-- r holds for 0 with itself too
abbrev pub two_loops : Interpretation
two_loops = record { size = 2; rows = record { symbol = 2; arguments = 0 ∷ 0 ∷ []; value = 1 } ∷ p_or_loop.rows }

-- a predicate whose value is neither that of truth nor that of falsehood
abbrev pub p_of_value_two : Interpretation
p_of_value_two = record { size = 3; rows = record { symbol = 1; arguments = 0 ∷ []; value = 2 } ∷ [] }

-- n values, of which no predicate holds
abbrev pub bare : ℕ → Interpretation
bare n = record { size = n; rows = [] }

abbrev pub every_p : FormulaTree
every_p = quantified for_all (x ∷ []) (p_of x)

abbrev pub some_p : FormulaTree
some_p = quantified exists_some (x ∷ []) (p_of x)

-- `! [X] : ! [Y] : X = Y`
abbrev pub all_equal : FormulaTree
all_equal = quantified for_all (x ∷ []) (quantified for_all (y ∷ []) (equation true (variable x) (variable y)))

-- the formulas of an axiom and its negation
abbrev pub contradiction : FormulaTree → List Annotated
contradiction f = fof_axiom f ∷ fof_axiom (negation f) ∷ []

-- the formulas of an axiom and of a conjecture
abbrev pub proving : FormulaTree → FormulaTree → List Annotated
proving f g = fof_axiom f ∷ conjecture g ∷ []

-- `p(X)` as a `fof` formula, in which X is free
abbrev pub open_alone : List Annotated
open_alone = fof_axiom (p_of x) ∷ []
