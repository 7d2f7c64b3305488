-- The parents of a step, looked up by number. So one set of rules serves the lines of a text, those of a pool, those of a batch and
-- those of a reduced clause, each with its own numbers.
use Rattle.std.specs.Prelude.{ℕ, Bool, List, [], ◌∷◌, Option, Some, option_and_then, option_map}
use Rattle.fol_base.specs.Clause.{TreeClause}
use Rattle.fol_base.specs.Literal.{clause_of}
use Rattle.kernel_steps.specs.declared.parents.ParentRef.{ParentRef}

-- a clause that a rule may use, and whether it comes from a component or opposite line
pub record Parent : Type 0 where
  pub clause : TreeClause
  pub introduces : Bool

-- the clauses that a step may use, by their numbers; none where a number has no such clause
abbrev pub Parents : Type 0
Parents = ℕ → Option Parent

-- the parent that the program lends
abbrev pub parent_of : ParentRef → Parent
parent_of p = record { clause = clause_of p.clause.now; introduces = p.introduces }

-- the values of a list, if each is there
abbrev pub all_there : {X : Type 0} → List (Option X) → Option (List X)
all_there [] = Some []
all_there (o ∷ os) = option_and_then (λ x. option_map (λ xs. x ∷ xs) (all_there os)) o
