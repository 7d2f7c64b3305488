use Rattle.std.proofs.Common.{◌≡◌, map, ap, ◌∙◌}
use Rattle.std.specs.Vec.Iter.{into_iter_items}
use Rattle.tptp_source.specs.Shape.{tree_of}
use Rattle.tptp_source.proofs.AboutParts.PartTerms.{names-more, names-none, names-first}
use Rattle.tptp_source.proofs.part.into_names.Goals as goal

pub loop-term-init : goal.loop-term-init
loop-term-init c =
    let e : into_iter_items c.into_iter-term-iterator.result ≡ c.into_vec-term-items.result.items = c.into_iter-term-iterator.ensures.into_iter_gives.0 in
    names-first c.args.terms _ _ c.new-names.ensures (ap (map tree_of) e ∙ c.into_vec-term-items.ensures)

pub loop-term-preserved : goal.loop-term-preserved
loop-term-preserved c =
    names-more c.args.terms _ _ _ _ _ _ c.loop-term.invariant (ap (map tree_of) c.in-Some.ensures.steps.0) c.in-Some-into_name.ensures c.in_ok-push-in-Some-into_name.ensures.ok

pub returns-in-None-into_name : goal.returns-in-None-into_name
returns-in-None-into_name c = names-none c.args.terms _ _ _ _ c.loop-term.invariant (ap (map tree_of) c.in-Some.ensures.steps.0) c.in-None-into_name.ensures
