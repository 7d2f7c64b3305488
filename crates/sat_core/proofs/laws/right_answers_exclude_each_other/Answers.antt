use Rattle.sat_core.proofs.AboutTrails.TruthLemmas.{right_logs_refute, answers_exclude}
use Rattle.sat_core.proofs.laws.right_answers_exclude_each_other.Goals as goal

pub returns-clause-logs_refute : goal.returns-clause-logs_refute
returns-clause-logs_refute c = right_logs_refute

pub returns-clause-exclude : goal.returns-clause-exclude
returns-clause-exclude c = answers_exclude
