use Rattle.std.proofs.Common.{◌≡◌, ℕ, refl, ap, sym, ◌∙◌, arith}
use Rattle.std.specs.Prelude.{Option, None, is_some}
use Rattle.pool_history.specs.Outcomes.{outcome_of}
use Rattle.pool_history.specs.Record.{PoolRecord}
use Rattle.pool_history.specs.Replay.{replay}
use Rattle.pool_core.proofs.AboutClaims.ClaimLemmas.{open-without, some-out, no-value}
use Rattle.pool_core.proofs.pool.Pool.claim.Goals as goal

pub returns-in-Some-clause-answer : goal.returns-in-Some-clause-answer
returns-in-Some-clause-answer c = (sym c.outcome.ensures ∙ c.in-Some.is, refl)

pub give_clauses-requires-clause-open : goal.give_clauses-requires-clause-open
give_clauses-requires-clause-open c =
    open-without (replay c.args.self.now.origin c.args.self.now.history) (sym c.outcome.ensures ∙ no-value c.outcome.result c.in_default.not-Some)

pub give-requires-clause-open : goal.give-requires-clause-open
give-requires-clause-open c =
    open-without (replay c.args.self.now.origin c.args.self.now.history) (sym c.outcome.ensures ∙ no-value c.outcome.result c.in_default.not-Some)

pub returns-in_ok-jobs_out-in-None : goal.returns-in_ok-jobs_out-in-None
returns-in_ok-jobs_out-in-None c =
    let r : PoolRecord = replay c.args.self.now.origin c.args.self.now.history in
    let none : outcome_of r ≡ None = sym c.outcome.ensures ∙ no-value c.outcome.result c.in_default.not-Some in
    let nothing = sym c.next_given.ensures ∙ c.in-None.is in
    let solved = sym c.must_solve.ensures ∙ c.if-must_solve.false in
    record {
      bank = refl;
      origin = refl;
      answer = (
        open-without r none,
        solved,
        ap (λ (o : Option ℕ). is_some o) nothing,
        c.in_ok-jobs_out-in-None.ensures,
        (let some = some-out r none solved nothing in let same = c.in_ok-jobs_out-in-None.ensures in omega (arith, some, same)),
        refl,
      );
      of_bank = tt;
      unchanged = tt;
    }
