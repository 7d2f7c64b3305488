use Rattle.std.proofs.Common.{refl}
use Rattle.axiom_filter.proofs.laws.selection_examples.Goals as goal

pub returns-clause-by_rarity : goal.returns-clause-by_rarity
returns-clause-by_rarity c = refl

pub returns-clause-tolerance : goal.returns-clause-tolerance
returns-clause-tolerance c = (refl, refl)

pub returns-clause-depth : goal.returns-clause-depth
returns-clause-depth c = (refl, refl)

pub returns-clause-no_goal : goal.returns-clause-no_goal
returns-clause-no_goal c = refl

pub returns-clause-no_symbols : goal.returns-clause-no_symbols
returns-clause-no_symbols c = refl

pub returns-clause-part : goal.returns-clause-part
returns-clause-part c = refl
