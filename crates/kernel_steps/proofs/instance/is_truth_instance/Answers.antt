use Rattle.std.proofs.Common.{ap, sym, ◌∙◌}
use Rattle.fol_base.specs.Tree.{is_truth, trees_of}
use Rattle.fol_base.specs.Instance.{instance}
use Rattle.fol_base.specs.Term.{tree_of}
use Rattle.kernel_steps.proofs.AboutCalls.BoundLemmas.{is_truth-application}
use Rattle.kernel_steps.proofs.instance.is_truth_instance.Goals as goal

pub returns-in-App : goal.returns-in-App
returns-in-App g c =
    let σ = g.S.LendsTerms.meaning c.args.bind.now in
    c.is_truth-in-App.ensures
    ∙ ap (λ t. is_truth (tree_of t)) c.in-App.is
    ∙ sym (is_truth-application σ c.in-App.field-0 (trees_of c.in-App.field-1))
    ∙ sym (ap (λ t. is_truth (instance σ (tree_of t))) c.in-App.is)
