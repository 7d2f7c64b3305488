use Rattle.std.proofs.Common.{ap, sym, ◌∙◌}
use Rattle.fol_base.specs.Term.{tree_of}
use Rattle.fol_base.specs.Tree.{true_tree}
use Rattle.fol_base.specs.Order.{compare_trees}
use Rattle.kbo_order.specs.Reading.{reading}
use Rattle.kbo_order.proofs.AboutReading.ReadingLemmas.{seen-variable}
use Rattle.kbo_order.proofs.AboutLaws.TruthLemmas.{against-variable, against-equal, against-greater}
use Rattle.kbo_order.proofs.terms.against_truth.Goals as goal

pub returns-in-Var : goal.returns-in-Var
returns-in-Var g c =
    let σ = g.S.LendsTerms.meaning c.args.bind.now in
    against-variable c.in-Var.field-0
    ∙ ap (λ x. compare_trees x true_tree)
    (sym (seen-variable c.head-top.result.is_bound σ c.head-top.result.term.now c.in-Var.field-0 c.in-Var.is c.head-top.ensures.followed)
    ∙ c.head-top.ensures.same)

pub returns-then-is_truth : goal.returns-then-is_truth
returns-then-is_truth g c =
    let σ = g.S.LendsTerms.meaning c.args.bind.now in
    against-equal (reading c.head-top.result.is_bound σ) (tree_of c.head-top.result.term.now) (sym c.is_truth.ensures ∙ c.if-is_truth.true)
    ∙ ap (λ x. compare_trees x true_tree) c.head-top.ensures.same

pub returns-else-is_truth : goal.returns-else-is_truth
returns-else-is_truth g c =
    let σ = g.S.LendsTerms.meaning c.args.bind.now in
    against-greater (reading c.head-top.result.is_bound σ) c.head-top.result.term.now c.in-App.field-0 c.in-App.field-1 c.in-App.is
    (sym c.is_truth.ensures ∙ c.if-is_truth.false)
    ∙ ap (λ x. compare_trees x true_tree) c.head-top.ensures.same
