-- A worked example: what is found for `f(X0,b)` and `f(a,X0)`, taken apart.
use Rattle.std.specs.Prelude.{true, [], ◌∷◌}
use Rattle.fol_base.specs.Examples.{a, b}
use Rattle.unifier.specs.SolvedForm.{SolvedForm}

-- the left X0, which has the number 0 among the variables of both sides, becomes a, and the right X0, which has 1, becomes b
abbrev pub example : SolvedForm
example = record { apart = true; pairs = (0, a) ∷ (1, b) ∷ [] }
