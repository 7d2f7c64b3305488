use Rattle.std.proofs.Common.{◌≡◌, length, refl, ap, ◌∙◌, arith}
use Rattle.std.proofs.lemmas.List.{length-set}
use Rattle.clause_register.specs.Register.{made_active}
use Rattle.pool_core.proofs.AboutReturns.ProofStateLemmas.{finished-state}
use Rattle.pool_history.proofs.AboutRecords.ItemLemmas.{item-at}
use Rattle.pool_core.proofs.pool.ProofState.finish.Goals as goal

pub returns-clause-finished : goal.returns-clause-finished
returns-clause-finished c = λ bank table r pairs queue is.
    let z = item-at c.args.self.now.register.clauses c.args.number c.requires.there in
    finished-state bank table c.args.self.now _ r c.args.number pairs z.0 z.1 (c.set_active.ensures.clauses z.0 z.1) queue refl refl refl refl is

pub returns-clause-room : goal.returns-clause-room
returns-clause-room c = λ d deaths enough.
    let z = item-at c.args.self.now.register.clauses c.args.number c.requires.there in
    let same : length c.set_active.new.self.clauses ≡ length c.args.self.now.register.clauses =
    ap length (c.set_active.ensures.clauses z.0 z.1) ∙ length-set c.args.self.now.register.clauses c.args.number (made_active z.0) in
    let register = enough.places.register in
    let queue = enough.places.queue in
    record {
      places = record {
        register = omega (arith, register, c.set_active.ensures.room);
        queue = omega (arith, queue, same);
        index = enough.places.index;
      };
      steps = enough.steps;
      parts = enough.parts;
      names = enough.names;
      notes = enough.notes;
    }
