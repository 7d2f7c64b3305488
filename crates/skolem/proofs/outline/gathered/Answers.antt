use Rattle.std.proofs.Common.{◌==◌, ◌++◌, ◌∙◌, ap}
use Rattle.std.specs.List.{list_any}
use Rattle.skolem.proofs.outline.gathered.Goals as goal

pub returns : goal.returns
returns c = λ s v l.
    c.in_ok-shorten.ensures.same v l
    ∙ ap (list_any (λ w. v == w)) (c.in_ok-extend_from_slice.ensures.items ∙ ap (λ ys. c.args.first.variables.items ++ ys) c.as_slice.ensures.value)
