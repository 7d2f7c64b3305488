use Rattle.laws_calculus.proofs.AboutLifting.LiftRules.{factorings_lift}
use Rattle.laws_calculus.proofs.AboutCovering.ReachLemmas.{factorings_reach_all}
use Rattle.laws_calculus.proofs.laws.lifting.factorings_lift.Goals as goal

pub returns-clause-to_one : goal.returns-clause-to_one
returns-clause-to_one c = factorings_lift

pub returns-clause-to_all : goal.returns-clause-to_all
returns-clause-to_all c = factorings_reach_all
