use Rattle.std.proofs.Common.{◌≡◌, length, sym, ◌∙◌}
use Rattle.std.specs.Iterator.Adapters.{zip_first, zip_second}
use Rattle.std.specs.Slice.Iter.{iter_rest}
use Rattle.std.proofs.lemmas.Slice.Zip.{zip_end}
use Rattle.sort_checks.proofs.FaultLemmas.{none-further}
use Rattle.sort_checks.proofs.faults.first_cause.Goals as goal

pub returns : goal.returns
returns c =
    let first : iter_rest (zip_first c.into_iter-cause-iterator.result) ≡ c.args.causes.now = cc in
    let second : iter_rest (zip_second c.into_iter-cause-iterator.result) ≡ c.args.places.now = cc in
    let ended = zip_end c.args.causes.now c.args.places.now c.loop-cause.yielded c.into_iter-cause-iterator.result c.loop-cause.cause-iterator c.next.new.self c.next.result first second c.loop-cause.yielded_by c.in-None.is c.next.ensures.steps in
    sym (none-further c.args.causes.now c.args.places.now (length c.loop-cause.yielded) ended) ∙ c.loop-cause.invariant
