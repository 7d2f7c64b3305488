use Rattle.std.proofs.Common.{◌≡◌, take, ap, ◌∙◌}
use Rattle.sort_checks.specs.Lent.{body_lent, bodies_of, declared_among}
use Rattle.sort_checks.specs.Tables.{repeats}
use Rattle.sort_checks.proofs.FaultLemmas.{repeat-step, repeats-done}
use Rattle.sort_checks.proofs.repeats.repeated_declarations.Goals as goal

pub loop-index-preserved : goal.loop-index-preserved
loop-index-preserved c =
    let bodies = bodies_of c.args.entries.now in
    let earlier = declared_among (take c.loop-index.index bodies) in
    let entry = c.index-entries-index.result in
    let told : c.is_repeated.result ≡ repeats earlier (body_lent entry.body) =
    c.is_repeated.ensures ∙ ap (λ bs. repeats (declared_among (take c.loop-index.index bs)) (body_lent entry.body)) c.in_ok-table.ensures in
    repeat-step c.args.entries.now c.loop-index.index c.index-entries-index.result c.loop-index.repeated.items c.push.new.self.items _ c.is_repeated.result
    c.loop-index-test.true c.index-entries-index.is told c.in_ok-push.ensures.items c.loop-index.invariant

pub returns : goal.returns
returns c = repeats-done c.args.entries.now c.loop-index.index c.loop-index.repeated.items _ c.loop-index-test.false c.loop-index.invariant
