use Rattle.laws_calculus.proofs.AboutLifting.LiftRules.{superpositions_lift}
use Rattle.laws_calculus.proofs.AboutCovering.ReachLemmas.{superpositions_reach_all}
use Rattle.laws_calculus.proofs.laws.lifting.superpositions_lift.Goals as goal

pub returns-clause-to_one : goal.returns-clause-to_one
returns-clause-to_one c = superpositions_lift

pub returns-clause-to_all : goal.returns-clause-to_all
returns-clause-to_all c = superpositions_reach_all
