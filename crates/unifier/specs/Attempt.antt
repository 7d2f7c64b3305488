-- What an attempt to unify shows.
use Rattle.std.specs.Prelude.{Bool, None, ⊤}
use Rattle.fol_base.specs.Tree.{Tree}
use Rattle.unifier.specs.declared.attempt.Attempt.{Attempt}
use Rattle.unifier.specs.declared.attempt.Attempt.TheVariants.{Unified, NoUnifier, Undecided}
use Rattle.unifier.specs.Solution.{solved_form}
use Rattle.unifier.specs.Bindings.{IsUnified, IsFound}

-- what is found is a most general unifier, and where none is said to exist, none does
abbrev pub IsAttempt : Bool → Tree → Tree → Attempt → Type 0
IsAttempt apart s t (Unified solution) = IsFound apart s t (solved_form solution)
IsAttempt apart s t NoUnifier = IsUnified apart s t None
IsAttempt apart s t Undecided = ⊤
