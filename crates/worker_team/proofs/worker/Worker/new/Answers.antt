use Rattle.std.proofs.Common.{refl}
use Rattle.worker_team.proofs.TeamLemmas.{new-index}
use Rattle.worker_team.proofs.worker.Worker.new.Goals as goal

pub returns-clause-ready : goal.returns-clause-ready
returns-clause-ready c bank of same = record {
  pass = c.args.pass;
  has = record { there = refl; of_lock = refl; of_pool = of };
  known = record { index = c.in-Ok.index; last = c.new-last.result };
  knowing = refl;
  knows = record { index = new-index bank c.args.pass c.in-Ok.index c.args.options same c.in-Ok.ensures; last = c.new-last.ensures _ };
}
