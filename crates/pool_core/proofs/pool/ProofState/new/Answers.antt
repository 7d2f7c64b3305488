use Rattle.std.specs.Prelude.{None}
use Rattle.std.proofs.Common.{refl}
use Rattle.pool_core.specs.declared.pool.ProofState.{ProofState}
use Rattle.pool_core.proofs.AboutBeginnings.InputLemmas.{nothing-state}
use Rattle.pool_core.proofs.pool.ProofState.new.Goals as goal

pub returns-clause-empty : goal.returns-clause-empty
returns-clause-empty c = λ bank table.
    let s : ProofState = record { register = c.new.result; queue = c.in_ok-new.field-0; notes = c.new-3.result; steps = c.new-4.result; ended = None; splits = c.new-5.result; asserting = c.new-6.result } in
    nothing-state bank table s c.new.ensures c.in_ok-new.ensures.pairs c.new-4.ensures.items refl c.new-5.ensures c.new-6.ensures
