-- What a search for a subsuming clause looks at, and what it answers.
use Rattle.std.specs.Prelude.{◌≡◌, ℕ, Bool, List, map, length, Option, None, Some, IsTrue}
use Rattle.fol_base.specs.Tree.{Tree}
use Rattle.fol_base.specs.Instance.{Substitution, substitution}
use Rattle.fol_base.specs.Clause.{TreeLiteral, TreeClause, clause_variables}
use Rattle.fol_base.specs.Canonical.{bound_of}
use Rattle.fol_base.specs.Lent.{lent_of}
use Rattle.fol_base.specs.Subsumption.{assertions, is_among, all_different, stand_at, Subsumes}
use Rattle.fol_base.specs.WellFormed.{SymbolUse, are_literals_of}
use Rattle.subsume.specs.declared.target.Target.{Target}

-- the target has the clause's literals, and the numbers that the clause asserts
pub record IsTargetOf (target : Target) (d : TreeClause) : Type 0 where
  pub literals : map lent_of target.literals.items ≡ d.literals
  pub assertions : target.assertions.items ≡ assertions d.names

-- the literals' instances stand at different places
pub record IsMapped (ls ds : List TreeLiteral) (σ : Substitution) : Type 0 where
  pub places : List ℕ
  pub different : IsTrue (all_different places)
  pub mapped : IsTrue (stand_at σ ls places ds)

-- the numbers are among the others, and the literals' instances stand at different places
pub record Maps (needed : List ℕ) (ls : List TreeLiteral) (given : List ℕ) (ds : List TreeLiteral) (σ : Substitution) : Type 0 where
  pub asserted : IsTrue (is_among needed given)
  pub literals : IsMapped ls ds σ

-- both clauses are well-formed under a use of the symbols
pub record AreOfUse (usage : SymbolUse) (c d : TreeClause) : Type 0 where
  pub first : IsTrue (are_literals_of usage c.literals)
  pub second : IsTrue (are_literals_of usage d.literals)

-- What `subsumes` answers: the terms of a substitution by which the first clause subsumes the second, one for each of its variables by
-- number, or none where it doesn't.
abbrev pub IsSubsumption : (ℕ → Bool) → TreeClause → TreeClause → Option (List Tree) → Type 0
IsSubsumption is_predicate c d None = Subsumes is_predicate c d → ⊥
IsSubsumption is_predicate c d (Some terms) =
    (s : Subsumes is_predicate c d) × (s.matcher ≡ substitution terms) × (length terms ≡ bound_of (clause_variables c))
