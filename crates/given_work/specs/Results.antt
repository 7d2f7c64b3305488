-- The parts of a result.
use Rattle.std.specs.Prelude.{ℕ, List, [], map}
use Rattle.fol_base.specs.Clause.{TreeLiteral, TreeClause}
use Rattle.kernel_steps.specs.Derivation.{under_names}
use Rattle.kernel_steps.specs.Split.{literals_at, canonical_literals}

-- the clauses of the literals at some places, in canonical form and without names
abbrev pub parts_at : List TreeLiteral → List (List ℕ) → List TreeClause
parts_at ls parts = map (λ places. under_names (canonical_literals (literals_at ls places)) []) parts
