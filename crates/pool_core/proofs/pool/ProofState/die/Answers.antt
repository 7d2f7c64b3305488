use Rattle.std.proofs.Common.{◌≡◌, length, refl, ap, ◌∙◌, arith}
use Rattle.std.proofs.lemmas.List.{length-set}
use Rattle.clause_register.specs.Register.{dead_in}
use Rattle.clause_register.specs.declared.register.Registration.{Registration}
use Rattle.pool_core.proofs.AboutReturns.ProofStateLemmas.{died-state}
use Rattle.pool_core.proofs.pool.ProofState.die.Goals as goal

pub returns-clause-died : goal.returns-clause-died
returns-clause-died c = λ bank table r justifiers pairs moment queue is.
    let z : Registration = (c.requires.living).0 in
    died-state bank table c.args.self.now _ r c.args.number c.args.event justifiers pairs z (c.requires.living).1 (c.requires.living).2 moment
    (c.bury.ensures.clauses z (c.requires.living).1) (c.remove.ensures.pairs ∙ queue) refl refl refl refl is

pub returns-clause-room : goal.returns-clause-room
returns-clause-room c = λ d deaths enough.
    let z : Registration = (c.requires.living).0 in
    let same : length c.bury.new.self.clauses ≡ length c.args.self.now.register.clauses =
    ap length (c.bury.ensures.clauses z (c.requires.living).1) ∙ length-set c.args.self.now.register.clauses c.args.number (dead_in c.args.event z) in
    let register = enough.places.register in
    let queue = enough.places.queue in
    let notes = enough.notes in
    record {
      places = record {
        register = omega (arith, register, c.bury.ensures.room);
        queue = omega (arith, queue, same, c.remove.ensures.nodes);
        index = enough.places.index;
      };
      steps = enough.steps;
      parts = enough.parts;
      names = enough.names;
      notes = omega (arith, notes, c.push_reserved.ensures.len, c.push_reserved.ensures.capacity);
    }
