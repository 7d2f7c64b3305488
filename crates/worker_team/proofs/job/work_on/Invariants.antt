use Rattle.std.proofs.Common.{◌≡◌}
use Rattle.worker_team.specs.Jobs.{IsTrying}
use Rattle.worker_team.proofs.job.work_on.Given as goal

abbrev pub invariant-tries : goal.invariant-tries
invariant-tries g l = record {
  lock : l.pass.lock ≡ l.lock;
  trying : IsTrying l.bank l.fn.ticket.job l.fn.pass l.pass l.index l.ticket;
}
