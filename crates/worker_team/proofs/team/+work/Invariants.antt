use Rattle.std.proofs.Common.{length}
use Rattle.worker_team.proofs.team.+work.Given as goal

abbrev pub decreases-work : goal.decreases-work
decreases-work g l = length l.team.items
