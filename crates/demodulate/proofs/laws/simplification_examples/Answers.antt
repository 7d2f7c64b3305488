use Rattle.std.proofs.Common.{[], ◌∷◌, refl}
use Rattle.fol_base.specs.Examples.{a, clause, equation}
use Rattle.demodulate.proofs.laws.simplification_examples.Goals as goal

pub returns-clause-tautology : goal.returns-clause-tautology
returns-clause-tautology c =
    record { result = clause (equation a a ∷ []); leads = record { moves = []; are_moves = tt; ends = refl }; tautology = refl }
