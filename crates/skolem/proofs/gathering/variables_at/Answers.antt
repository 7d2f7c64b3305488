use Rattle.std.proofs.Common.{◌≡◌, ◌==◌, ◌∙◌, ap, drop, arith}
use Rattle.std.specs.List.{list_any}
use Rattle.skolem.specs.Progress.{variables_at}
use Rattle.skolem.proofs.AboutBindings.PlaceLemmas.{each-once}
use Rattle.skolem.proofs.gathering.variables_at.Goals as goal

pub returns-clause-found : goal.returns-clause-found
returns-clause-found c v =
    let first : c.loop-index.index ≡ 0 = omega (arith, c.loop-index-test.false) in
    c.loop-index.invariant.0 v
    ∙ ap (λ i. list_any (λ w. v == w) (variables_at c.args.bindings.now (drop i c.in_ok-different.different.items))) first
    ∙ each-once c.args.bindings.now _ c.args.places.now.items _ v c.in_ok-place_count.ensures c.in_ok-different.ensures.found
