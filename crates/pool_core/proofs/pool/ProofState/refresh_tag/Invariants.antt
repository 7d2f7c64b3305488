use Rattle.std.proofs.Common.{◌≡◌, ℕ, ◌+◌, Bool, length}
use Rattle.term_bank.specs.declared.bank.Bank.{Bank}
use Rattle.term_bank.specs.declared.table.Table.{Table}
use Rattle.pool_history.specs.Record.{PoolRecord}
use Rattle.pool_core.specs.Waking.{AreLookedAt, AssertsNoneFrom, IsWakingStateOf}
use Rattle.pool_core.proofs.AboutWaking.TagLemmas.{IsLink}
use Rattle.pool_core.proofs.pool.ProofState.refresh_tag.Given as goal

abbrev pub invariant-loop-next : goal.invariant-loop-next
invariant-loop-next l = record {
  came :
      (bank : Bank) (table : Table) (awake : ℕ → Bool) (r : PoolRecord) → IsWakingStateOf bank table l.fn.self l.jobs.entries awake r
      → (now : ℕ → Bool) × IsWakingStateOf bank table l.self l.jobs.entries now r
      × AreLookedAt r awake now (AssertsNoneFrom l.next l.fn.self.asserting.entries l.tag);
  link : IsLink l.tag l.fn.self.asserting.entries l.next;
  nodes : length l.self.queue.pairs + l.self.queue.spare ≡ length l.fn.self.queue.pairs + l.fn.self.queue.spare;
  rest : l.self ≡ record l.fn.self { queue = l.self.queue };
}

abbrev pub decreases-loop-next : goal.decreases-loop-next
decreases-loop-next l = l.next
