-- Worked examples: truth values, and two small pools.
use Rattle.std.specs.Prelude.{true, false, ◌==◌, List, [], ◌∷◌}
use Rattle.fol_base.specs.Examples.{a, r, equation, clause}
use Rattle.sat_core.specs.Clause.{Valuation}
use Rattle.laws_pool_examples.specs.Examples.{pool_up_to, return, removal}
use Rattle.pool_history.specs.Replay.{Origin}
use Rattle.pool_history.specs.declared.batch.Fate.TheVariants.{Dropped}
use Rattle.pool_history.specs.declared.batch.Redundancy.TheVariants.{Tautology}
use Rattle.pool_history.specs.declared.batch.Work.TheVariants.{Gone}
use Rattle.pool_history.specs.declared.event.Event.{Event}
use Rattle.pool_history.specs.declared.event.Event.TheVariants.{Claim}

-- all names are true, or the first alone, or none
abbrev pub all_true : Valuation
all_true name = true

abbrev pub first_true : Valuation
first_true name = name == 0

abbrev pub none_true : Valuation
none_true name = false

-- r alone
abbrev pub one_atom : Origin
one_atom = pool_up_to 100 false (clause (r ∷ []) ∷ [])

-- a = a alone, which goes
abbrev pub one_tautology : Origin
one_tautology = pool_up_to 100 false (clause (equation a a ∷ []) ∷ [])

abbrev pub tautology_history : List Event
tautology_history = Claim 1 ∷ return 1 (Gone (removal 0 [] (Dropped Tautology))) ∷ []
