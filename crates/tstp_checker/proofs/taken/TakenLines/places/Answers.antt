use Rattle.std.proofs.Common.{ap, ◌∙◌}
use Rattle.clausal_form.specs.DerivationParts.{line_place}
use Rattle.tstp_checker.specs.Taken.{taken_of}
use Rattle.tstp_checker.proofs.AboutDerivations.TakenLemmas.{walk-starts, walk-none, walk-more, walk-ends}
use Rattle.tstp_checker.proofs.taken.TakenLines.places.Goals as goal

pub loop-name-init : goal.loop-name-init
loop-name-init c = walk-starts (line_place (taken_of c.args.self.now)) c.args.names.now _ c.new-places.ensures

pub returns-in-None : goal.returns-in-None
returns-in-None c =
    walk-none (line_place (taken_of c.args.self.now)) c.args.names.now c.loop-name.name-index c.name-item.result _ _ c.loop-name-test.true
    c.name-item.is (c.in-None.ensures ∙ ap (line_place (taken_of c.args.self.now)) c.as_slice.ensures) c.loop-name.invariant

pub loop-name-preserved : goal.loop-name-preserved
loop-name-preserved c =
    walk-more (line_place (taken_of c.args.self.now)) c.args.names.now c.loop-name.name-index c.name-item.result _ _ _ _ c.loop-name-test.true
    c.name-item.is (c.in-Some.ensures ∙ ap (line_place (taken_of c.args.self.now)) c.as_slice.ensures) c.in_ok-push-in-Some.ensures.ok
    c.loop-name.invariant

pub returns : goal.returns
returns c = walk-ends (line_place (taken_of c.args.self.now)) c.args.names.now c.loop-name.name-index _ _ c.loop-name-test.false c.loop-name.invariant
