use Rattle.std.proofs.Common.{◌≡◌, ◌||◌, true, refl, ap, sym, ◌∙◌, subst}
use Rattle.std.specs.Prelude.{is_none, is_some}
use Rattle.std.proofs.lemmas.Bool.{or_right}
use Rattle.pool_history.specs.Answers.{dead_justifier, death_of}
use Rattle.pool_history.specs.Record.{PoolRecord, lives}
use Rattle.pool_history.specs.Replay.{replay}
use Rattle.pool_core.proofs.AboutReturns.ReturnLemmas.{dead-of, living-of, dead-has-event, first-died, of-refused}
use Rattle.pool_core.proofs.pool.Pool.give_back.Goals as goal

pub dismiss-requires : goal.dismiss-requires
dismiss-requires g c =
    let r : PoolRecord = replay c.args.self.now.origin c.args.self.now.history in
    let out = c.out_job-out.ensures in
    record {
      given = out.given;
      out = out.out;
      says = dead-of r out.given.number c.in-Some.event (ap (death_of r) out.says.0 ∙ sym c.death.ensures ∙ c.in-Some.is);
    }

pub take-requires-clause-takeable : goal.take-requires-clause-takeable
take-requires-clause-takeable g c =
    let r : PoolRecord = replay c.args.self.now.origin c.args.self.now.history in
    let out = c.out_job-out.ensures in
    let alive : lives r c.out_job-out.result.number ≡ true = living-of r c.out_job-out.result.number out.says.2 (sym c.death.ensures ∙ c.in_default.is) in
    record {
      right = c.requires.right;
      living = record { given = out.given; out = out.out; says = (out.says.0, alive) };
      justified = sym c.dead_justifier.ensures ∙ c.in_default-dead_justifier.is;
    }

pub returns-in_default-dead_justifier-clause-answer : goal.returns-in_default-dead_justifier-clause-answer
returns-in_default-dead_justifier-clause-answer g c =
    let r : PoolRecord = replay c.args.self.now.origin c.args.self.now.history in
    let out = c.out_job-out.ensures in
    let alive : lives r c.out_job-out.result.number ≡ true = living-of r c.out_job-out.result.number out.says.2 (sym c.death.ensures ∙ c.in_default.is) in (
      record { given = out.given; out = out.out; says = subst (λ k. lives r k ≡ true) (sym out.says.0) alive },
      sym c.dead_justifier.ensures ∙ c.in_default-dead_justifier.is,
      c.in_ok-take.ensures.history,
    )

pub unreachable-requires : goal.unreachable-requires
unreachable-requires g c =
    let r : PoolRecord = replay c.args.self.now.origin c.args.self.now.history in
    dead-has-event r c.in-Some-dead_justifier.justifier
    (first-died r c.args.batch.work c.in-Some-dead_justifier.justifier (sym c.dead_justifier.ensures ∙ c.in-Some-dead_justifier.is))
    (sym c.death-2.ensures ∙ c.in_default-death.is)

pub turn_down-ticket-requires-clause-living : goal.turn_down-ticket-requires-clause-living
turn_down-ticket-requires-clause-living g c =
    let r : PoolRecord = replay c.args.self.now.origin c.args.self.now.history in
    living-of r c.out_job-out.result.number c.out_job-out.ensures.says.2 (sym c.death.ensures ∙ c.in_default.is)

pub returns-in-Ok-clause-answer : goal.returns-in-Ok-clause-answer
returns-in-Ok-clause-answer g c =
    let r : PoolRecord = replay c.args.self.now.origin c.args.self.now.history in
    let out = c.out_job-out.ensures in
    let alive : lives r c.out_job-out.result.number ≡ true = living-of r c.out_job-out.result.number out.says.2 (sym c.death.ensures ∙ c.in_default.is) in (
      record { given = out.given; out = out.out; says = subst (λ k. lives r k ≡ true) (sym out.says.0) alive },
      sym c.dead_justifier.ensures ∙ c.in-Some-dead_justifier.is,
      sym c.death-2.ensures ∙ c.in-Some-death.is,
      c.in-Ok.ensures.history,
      c.in-Ok.ensures.job,
      c.in-Ok.ensures.ticket,
    )

pub returns-in_err-take-clause-memory : goal.returns-in_err-take-clause-memory
returns-in_err-take-clause-memory g c =
    let r : PoolRecord = replay c.args.self.now.origin c.args.self.now.history in
    let out = c.out_job-out.ensures in
    let alive : lives r c.out_job-out.result.number ≡ true = living-of r c.out_job-out.result.number out.says.2 (sym c.death.ensures ∙ c.in_default.is) in
    of-refused c.from_residual.result (
      record { given = out.given; out = out.out; says = subst (λ k. lives r k ≡ true) (sym out.says.0) alive },
      ap (λ o. is_some (dead_justifier r c.args.batch.work) || is_none o) c.in_err-take.ensures.open ∙ or_right (is_some (dead_justifier r c.args.batch.work)) true refl,
    )

pub returns-in-Err-clause-memory : goal.returns-in-Err-clause-memory
returns-in-Err-clause-memory g c =
    let r : PoolRecord = replay c.args.self.now.origin c.args.self.now.history in
    let out = c.out_job-out.ensures in
    let alive : lives r c.out_job-out.result.number ≡ true = living-of r c.out_job-out.result.number out.says.2 (sym c.death.ensures ∙ c.in_default.is) in (
      record { given = out.given; out = out.out; says = subst (λ k. lives r k ≡ true) (sym out.says.0) alive },
      ap (λ o. is_some o || is_none r.ended) (sym c.dead_justifier.ensures ∙ c.in-Some-dead_justifier.is),
    )
