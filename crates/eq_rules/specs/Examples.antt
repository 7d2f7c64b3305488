-- Clauses by their numbers, for the worked examples.
use Rattle.std.specs.Prelude.{ℕ, [], ◌∷◌, ◌==◌, Option, None, Some, if◌then◌else◌}
use Rattle.fol_base.specs.Clause.{TreeClause}
use Rattle.fol_base.specs.Examples.{x, a, p, clause}
use Rattle.fol_base.specs.Rules.{disequation}

-- X0 != a | p(X0) has the number 3
abbrev pub found_at_three : ℕ → Option TreeClause
found_at_three n = if n == 3 then Some (clause (disequation (x 0) a ∷ p (x 0) ∷ [])) else None

-- X0 != X1 | p(a) has the number 4
abbrev pub found_at_four : ℕ → Option TreeClause
found_at_four n = if n == 4 then Some (clause (disequation (x 0) (x 1) ∷ p a ∷ [])) else None
