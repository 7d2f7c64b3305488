use Rattle.std.proofs.Common.{◌≡◌, ◌+◌, All, length}
use Rattle.std.specs.Vec.Iter.{into_iter_items}
use Rattle.term_bank.specs.declared.bank.Bank.{Bank}
use Rattle.worker_team.specs.Team.{IsOfTeam}
use Rattle.worker_team.proofs.team.join_all.Given as goal

abbrev pub invariant-loop-worker : goal.invariant-loop-worker
invariant-loop-worker l = record {
  lock : l.pass.lock ≡ l.lock;
  shares : l.pass.shares + length (into_iter_items l.worker-iterator) ≡ l.fn.pass.shares + length l.fn.team.items;
  start : l.pass.start ≡ l.fn.pass.start;
  origin : l.pass.origin ≡ l.fn.pass.origin;
  team : (bank : Bank) × All (IsOfTeam l.lock bank l.fn.pass.origin l.fn.pass.start) (into_iter_items l.worker-iterator);
}
