use Rattle.std.proofs.Common.{◌≡◌, ◌+◌, All, length}
use Rattle.term_bank.specs.declared.bank.Bank.{Bank}
use Rattle.worker_team.specs.Passes.{IsPassOf, origin_of}
use Rattle.worker_team.specs.Team.{IsReadyInTeam}
use Rattle.worker_team.proofs.team.hire.Given as goal

abbrev pub invariant-loop-number : goal.invariant-loop-number
invariant-loop-number l = record {
  lock : l.pass.lock ≡ l.lock;
  shares : l.pass.shares + l.number ≡ 1024;
  hired : length l.team.items ≡ l.number;
  start : l.pass.start ≡ l.fn.pass.start;
  origin : l.pass.origin ≡ l.fn.pass.origin;
  pass : (bank : Bank) → IsPassOf bank l.fn.pass → IsPassOf bank l.pass;
  ready :
      (bank : Bank) → IsPassOf bank l.fn.pass → l.options ≡ (origin_of l.fn.pass).options
      → All (IsReadyInTeam l.lock bank l.fn.pass.origin l.fn.pass.start) l.team.items;
}
