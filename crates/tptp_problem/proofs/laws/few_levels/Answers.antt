use Rattle.tptp_problem.proofs.AboutReading.LevelLemmas.{problem-levels, too-many-levels, printed-within, too-many-printed}
use Rattle.tptp_problem.proofs.laws.few_levels.Goals as goal

pub returns : goal.returns
returns c = record { problem = problem-levels; not_more = too-many-levels; printed = printed-within; not_printed = too-many-printed }
