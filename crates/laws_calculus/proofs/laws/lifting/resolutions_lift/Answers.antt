use Rattle.laws_calculus.proofs.AboutLifting.LiftRules.{resolutions_lift}
use Rattle.laws_calculus.proofs.AboutCovering.ReachLemmas.{resolutions_reach_all}
use Rattle.laws_calculus.proofs.laws.lifting.resolutions_lift.Goals as goal

pub returns-clause-to_one : goal.returns-clause-to_one
returns-clause-to_one c = resolutions_lift

pub returns-clause-to_all : goal.returns-clause-to_all
returns-clause-to_all c = resolutions_reach_all
