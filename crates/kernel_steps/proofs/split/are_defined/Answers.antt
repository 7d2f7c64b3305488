use Rattle.std.proofs.Common.{map, sym, ◌∙◌}
use Rattle.std.proofs.lemmas.List.{length-map}
use Rattle.fol_base.specs.Literal.{literal_of}
use Rattle.kernel_steps.specs.Split.{literals_at}
use Rattle.kernel_steps.proofs.AboutSplits.SplitLoops.{are_defined-lengths}
use Rattle.kernel_steps.proofs.split.are_defined.Goals as goal

pub returns-then-definitions-parts : goal.returns-then-definitions-parts
returns-then-definitions-parts g c =
    let look = g.P.LendsParents.meaning c.args.parents.now in
    let part = literals_at (map literal_of c.args.literals.now) in
    are_defined-lengths (map look c.args.definitions.now) (map part c.args.parts.now)
    (λ e. c.if-definitions-parts.true (sym (length-map c.args.definitions.now look) ∙ e ∙ length-map c.args.parts.now part))
