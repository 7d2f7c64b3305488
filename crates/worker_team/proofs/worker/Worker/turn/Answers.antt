use Rattle.std.proofs.Common.{◌≡◌, refl, sym, ◌∙◌, subst}
use Rattle.std.proofs.lemmas.Option.{same_Some}
use Rattle.worker_team.specs.Team.{HasEndedTurn}
use Rattle.worker_team.specs.Workers.{HasPass}
use Rattle.worker_team.proofs.TeamLemmas.{taken-broken, taken-on}
use Rattle.worker_team.proofs.worker.Worker.turn.Goals as goal

pub returns-in_err-knowledge : goal.returns-in_err-knowledge
returns-in_err-knowledge g c =
    let lock = c.args.lock.now in
    let bank = c.args.bank.now in
    let p = c.in-Some-Some.pass in
    let q = c.take_turn-after.result.pass in
    let ready = c.requires.ready in
    let same : p ≡ ready.pass = same_Some p ready.pass (c.in-Some-Some.ensures.value ∙ ready.has.there) in
    let had = subst (HasPass lock bank c.args.self.now) (sym same) ready.has in
    record {
      taken =
          taken-broken lock bank c.args.self.now _ p q had refl c.take_turn-after.ensures.lock c.in_err-knowledge.field-0.0 c.from_residual.result
          (subst (HasEndedTurn bank p q) c.in_err-knowledge.was c.take_turn-after.ensures.ended) c.from_residual.ensures.0
          c.take_turn-after.ensures.idle;
    }

pub returns : goal.returns
returns g c =
    let lock = c.args.lock.now in
    let bank = c.args.bank.now in
    let p = c.in-Some-Some.pass in
    let q = c.take_turn-after.result.pass in
    let ready = c.requires.ready in
    let same : p ≡ ready.pass = same_Some p ready.pass (c.in-Some-Some.ensures.value ∙ ready.has.there) in
    let had = subst (HasPass lock bank c.args.self.now) (sym same) ready.has in
    record {
      taken =
          taken-on lock bank c.args.self.now _ p q had refl c.take_turn-after.ensures.lock c.in_ok-knowledge.field-0
          (subst (HasEndedTurn bank p q) c.in_ok-knowledge.was c.take_turn-after.ensures.ended) refl c.take_turn-after.ensures.idle;
    }
