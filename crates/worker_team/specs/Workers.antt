-- A worker between its turns.
use Rattle.std.specs.Prelude.{◌≡◌, Some}
use Rattle.term_bank.specs.declared.bank.Bank.{Bank}
use Rattle.turn_lock.specs.Shown.{TableId}
use Rattle.pool_history.specs.Record.{propositional_clauses}
use Rattle.worker_team.specs.Solving.{IsModelOfFirst}
use Rattle.worker_team.specs.Passes.{PoolPass, IsPassOf, IsIndexOf, record_of}
use Rattle.worker_team.specs.declared.worker.Knowledge.{Knowledge}
use Rattle.worker_team.specs.declared.worker.Worker.{Worker}

-- What a worker knows of the pool as its pass has seen it: an index, and a model of the first clauses over names.
pub record Knows (bank : Bank) (pass : PoolPass) (known : Knowledge) : Type 0 where
  pub index : IsIndexOf bank pass known.index
  pub last : IsModelOfFirst (propositional_clauses (record_of pass)) known.last

-- The worker has this pass, which is of the lock, over a pool of the bank.
pub record HasPass (lock : TableId) (bank : Bank) (worker : Worker) (pass : PoolPass) : Type 0 where
  pub there : worker.pass ≡ Some pass
  pub of_lock : pass.lock ≡ lock
  pub of_pool : IsPassOf bank pass

-- It can take a turn.
pub record IsReady (lock : TableId) (bank : Bank) (worker : Worker) : Type 0 where
  pub pass : PoolPass
  pub has : HasPass lock bank worker pass
  pub known : Knowledge
  pub knowing : worker.known ≡ Some known
  pub knows : Knows bank pass known
