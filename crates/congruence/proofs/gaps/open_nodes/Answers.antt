use Rattle.std.proofs.Common.{ap, sym, ◌∙◌}
use Rattle.congruence.specs.Keys.{with_key, place_of_key}
use Rattle.congruence.proofs.AboutClasses.FirstLemmas.{firsts-next, firsts-apart, key-read}
use Rattle.congruence.proofs.gaps.open_nodes.Goals as goal

pub loop-number-preserved : goal.loop-number-preserved
loop-number-preserved c =
    let key =
    key-read c.args.nodes.now c.args.classes.now c.loop-number.number c.index-nodes-number.result _ c.loop-number-test.true c.index-nodes-number.is
    c.in_ok-key.ensures in
    firsts-next c.args.nodes.now c.args.classes.now c.loop-number.number c.in_ok-place.place c.in_ok-left.left c.loop-number.signatures _
    c.loop-number.firsts.items _ c.loop-number.invariant
    (c.in_ok-place.ensures.place ∙ ap (place_of_key c.loop-number.signatures) key)
    (c.in_ok-place.ensures.keys ∙ ap (with_key c.loop-number.signatures) key)
    c.in_ok-left.ensures.known c.in_ok-left.ensures.added (sym c.are_joined.ensures ∙ c.if-not-are_joined.false)

pub returns-then-not-are_joined-clause-alike : goal.returns-then-not-are_joined-clause-alike
returns-then-not-are_joined-clause-alike c =
    let key =
    key-read c.args.nodes.now c.args.classes.now c.loop-number.number c.index-nodes-number.result _ c.loop-number-test.true c.index-nodes-number.is
    c.in_ok-key.ensures in
    firsts-apart c.args.nodes.now c.args.classes.now c.loop-number.number c.in_ok-place.place c.in_ok-left.left c.loop-number.signatures
    c.loop-number.firsts.items _ c.loop-number.invariant c.loop-number-test.true
    (c.in_ok-place.ensures.place ∙ ap (place_of_key c.loop-number.signatures) key)
    c.in_ok-left.ensures.known c.in_ok-left.ensures.added (sym c.are_joined.ensures ∙ c.if-not-are_joined.true)
