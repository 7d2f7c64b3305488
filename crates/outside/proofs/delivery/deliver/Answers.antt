use Rattle.std.proofs.Common.{◌∙◌, arith}
use Rattle.std.proofs.lemmas.Bool.Decides.{nat_tests}
use Rattle.outside.proofs.Delivered.{range_to_end, next_fits, next_rest, next_taken, next_completes, none_left_completes, fails_completes}
use Rattle.outside.proofs.delivery.deliver.Goals as goal

pub loop-rest-preserved : goal.loop-rest-preserved
loop-rest-preserved g c =
    let text = c.args.text.now in
    let rest = c.loop-rest.rest.now in
    let kept = c.loop-rest.invariant in
    let n = c.in_ok-count.count in
    let wrote = c.in_ok-count.ensures in
    let next = range_to_end rest n in
    record {
      fits = next_fits text rest _ n kept.fits next;
      rest = next_rest text rest _ n kept.fits wrote.within kept.rest next;
      taken = next_taken text rest _ _ _ _ n kept.fits wrote.within kept.rest next kept.taken wrote.taken;
      stays = wrote.stays ∙ kept.stays;
      completes = next_completes g.S.Sink.gives c.args.sink.now c.loop-rest.sink _ text rest _ n kept.completes (grind (arith, nat_tests)) wrote.given next;
    }

pub returns-in_err-count-clause-writes : goal.returns-in_err-count-clause-writes
returns-in_err-count-clause-writes g c =
    fails_completes g.S.Sink.gives c.args.sink.now c.loop-rest.sink _ _ _ _ c.from_residual.result c.loop-rest.invariant.completes (grind (arith, nat_tests))
    c.in_err-count.ensures.given c.from_residual.ensures.1

pub returns-clause-writes : goal.returns-clause-writes
returns-clause-writes g c = none_left_completes g.S.Sink.gives c.args.sink.now c.loop-rest.sink _ _ c.loop-rest.invariant.completes (grind (arith, nat_tests))
