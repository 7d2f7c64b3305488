-- Which clauses the steps are made for, and what a step answers.
use Rattle.std.specs.Prelude.{◌≡◌, ℕ, ◌≤◌, Bool, true, false, Option, None, Some, IsTrue, remove, slice_get}
use Rattle.fol_base.specs.Clause.{TreeLiteral, TreeClause, clause_size}
use Rattle.fol_base.specs.Canonical.{canonical_clause}
use Rattle.fol_base.specs.Literal.{clause_of}
use Rattle.fol_base.specs.declared.limits.TheConstants.{MOST_SYMBOLS}
use Rattle.kernel_steps.specs.Inference.{DropsTrivial, MergesEqual}
use Rattle.kernel_steps.specs.Names.{are_sorted}
use Rattle.kernel_steps.specs.declared.step.Reduced.{Reduced}
use Rattle.reduced_clause.specs.Extending.{GoesOn}

-- a clause that may be kept: it isn't too large, and its names are in order
pub record IsFit (c : TreeClause) : Type 0 where
  pub small : clause_size c ≤ MOST_SYMBOLS
  pub names : IsTrue (are_sorted c.names)

-- a literal goes, and the clause is numbered anew
pub record LosesLiteral (c d : TreeClause) : Type 0 where
  pub j : ℕ
  pub literal : TreeLiteral
  pub there : slice_get c.literals j ≡ Some literal
  pub canonical : d ≡ canonical_clause (record { literals = remove c.literals j; names = c.names })

-- The clause goes on by a move without a unit, whatever clauses there are.
abbrev pub GoesOnAlone : Reduced → Reduced → Type 0
GoesOnAlone old new =
    (is_predicate : ℕ → Bool) (clauses : ℕ → Option TreeClause) → IsFit (clause_of old.clause) → GoesOn is_predicate clauses None old new

-- no literal `t != t`
abbrev pub HasNoTrivial : TreeClause → Type 0
HasNoTrivial c = (d : TreeClause) → DropsTrivial c d → ⊥

-- no two equal literals
abbrev pub HasNoEqual : TreeClause → Type 0
HasNoEqual c = (d : TreeClause) → MergesEqual c d → ⊥

-- a step was made, or the clause is as before and no such step can be made
abbrev pub IsMadeOrNone : Reduced → Reduced → (TreeClause → Type 0) → Bool → Type 0
IsMadeOrNone old new CannotBeMade true = GoesOnAlone old new
IsMadeOrNone old new CannotBeMade false = (new ≡ old) × CannotBeMade (clause_of old.clause)
