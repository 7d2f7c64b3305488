use Rattle.std.proofs.Common.{◌≡◌, ◌<◌, length, ap, sym, ◌∙◌, subst}
use Rattle.std.specs.Prelude.{Some}
use Rattle.std.specs.Option.{option_copied}
use Rattle.std.proofs.lemmas.Option.{none-some, same_Some}
use Rattle.pool_history.specs.Record.{GivenJob, given_job}
use Rattle.pool_history.specs.Replay.{replay}
use Rattle.pool_history.specs.View.{PoolView}
use Rattle.pool_core.specs.declared.pool.OutJob.{OutJob}
use Rattle.pool_core.proofs.AboutClaims.GiveUpLemmas.{entry-out}
use Rattle.pool_core.proofs.AboutReturns.ReturnLemmas.{out-below}
use Rattle.pool_core.proofs.AboutClaims.StateLemmas.{record_of, pool-rises}
use Rattle.pool_core.proofs.pool.Pool.out_job.Goals as goal

pub unreachable-requires : goal.unreachable-requires
unreachable-requires c =
    let j : GivenJob = c.requires.given in
    let found : given_job (record_of c.self.inside) c.args.job ≡ Some j =
    ap (λ (v : PoolView). given_job (replay v.origin v.history) c.args.job) c.self.view_is ∙ c.requires.out in
    none-some (record { number = j.number; left = j.left })
    (ap option_copied (sym c.in_default.is) ∙ c.get.ensures.value ∙ entry-out c.self.inside (record_of c.self.inside) c.args.job j c.self.invariant.state (pool-rises c.self.inside c.self.invariant) found)

pub returns : goal.returns
returns c =
    let j : GivenJob = c.requires.given in
    let found : given_job (record_of c.self.inside) c.args.job ≡ Some j =
    ap (λ (v : PoolView). given_job (replay v.origin v.history) c.args.job) c.self.view_is ∙ c.requires.out in
    let entry : OutJob = record { number = j.number; left = j.left } in
    let same : c.in-Some.out.now ≡ entry =
    same_Some c.in-Some.out.now entry
    (ap option_copied (sym c.in-Some.is) ∙ c.get.ensures.value ∙ entry-out c.self.inside (record_of c.self.inside) c.args.job j c.self.invariant.state (pool-rises c.self.inside c.self.invariant) found) in
    record {
      given = j;
      out = c.requires.out;
      says = (
        ap (λ (o : OutJob). o.number) (sym same),
        ap (λ (o : OutJob). o.left) (sym same),
        subst (λ (v : PoolView). c.in-Some.out.now.number < length (replay v.origin v.history).registered) c.self.view_is
            (subst (λ (o : OutJob). o.number < length (record_of c.self.inside).registered) (sym same) (out-below c.self.inside c.args.job j c.self.invariant found)),
      );
    }
