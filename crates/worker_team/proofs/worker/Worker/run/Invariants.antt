use Rattle.worker_team.specs.Team.{IsRun}
use Rattle.worker_team.specs.Workers.{IsReady}
use Rattle.worker_team.proofs.worker.Worker.run.Given as goal

abbrev pub invariant-turns : goal.invariant-turns
invariant-turns g l = record {
  ready : IsReady l.lock l.bank l.self;
  run : IsRun l.lock l.bank l.fn.self l.self;
}
