use Rattle.std.proofs.Common.{refl, [], ◌∷◌}
use Rattle.plain_types.specs.Names.{positive_of}
use Rattle.sat_core.proofs.laws.answer_examples.Goals as goal

pub returns-clause-log : goal.returns-clause-log
returns-clause-log c = record { made = [] ∷ []; lawful = refl; empty = refl }

pub returns-clause-log_in_two_chains : goal.returns-clause-log_in_two_chains
returns-clause-log_in_two_chains c = record { made = (positive_of 1 ∷ []) ∷ [] ∷ []; lawful = refl; empty = refl }

pub returns-clause-empty_clause : goal.returns-clause-empty_clause
returns-clause-empty_clause c = record { made = [] ∷ []; lawful = refl; empty = refl }
