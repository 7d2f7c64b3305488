use Rattle.std.proofs.Common.{ap, sym, ◌∙◌}
use Rattle.std.specs.Prelude.{option_map}
use Rattle.fol_base.specs.Tree.{trees_of}
use Rattle.fol_base.specs.Place.{argument}
use Rattle.fol_base.specs.Term.{tree_of}
use Rattle.kernel_steps.specs.Bound.{under}
use Rattle.kernel_steps.proofs.AboutCalls.BoundLemmas.{argument-under}
use Rattle.kernel_steps.proofs.instance.argument_under.Goals as goal

pub returns-in-Some-argument_at-2 : goal.returns-in-Some-argument_at-2
returns-in-Some-argument_at-2 g c =
    let b = c.args.is_bound in
    let σ = g.T.LendsTerms.meaning c.args.bind.now in
    ap (option_map (under b σ)) (c.in-Some-argument_at-2.ensures ∙ ap (λ t. argument c.args.number (tree_of t)) c.in-App.is)
    ∙ sym (argument-under b σ c.in-App.field-0 (trees_of c.in-App.field-1) c.args.number)
    ∙ sym (ap (λ t. argument c.args.number (under b σ (tree_of t))) c.in-App.is)

pub returns-in-None-argument_at-2 : goal.returns-in-None-argument_at-2
returns-in-None-argument_at-2 g c =
    let b = c.args.is_bound in
    let σ = g.T.LendsTerms.meaning c.args.bind.now in
    ap (option_map (under b σ)) (c.in-None-argument_at-2.ensures ∙ ap (λ t. argument c.args.number (tree_of t)) c.in-App.is)
    ∙ sym (argument-under b σ c.in-App.field-0 (trees_of c.in-App.field-1) c.args.number)
    ∙ sym (ap (λ t. argument c.args.number (under b σ (tree_of t))) c.in-App.is)
