use Rattle.std.proofs.Common.{◌≡◌, ap, sym, ◌∙◌}
use Rattle.fol_base.specs.Tree.{true_tree}
use Rattle.fol_base.specs.Instance.{instance}
use Rattle.fol_base.specs.Term.{tree_of}
use Rattle.fol_base.specs.Order.{compare_trees}
use Rattle.kbo_order.specs.Cmp.{comparison_of}
use Rattle.kbo_order.proofs.AboutReading.AnswerLemmas.{compared-reversed}
use Rattle.kbo_order.proofs.AboutLaws.TruthLemmas.{truth-is}
use Rattle.kbo_order.proofs.terms.compare_under.Goals as goal

pub returns-then-is_equal : goal.returns-then-is_equal
returns-then-is_equal g c =
    let s = instance (g.S.LendsTerms.meaning c.args.left_bind.now) (tree_of c.args.left.now) in
    let t = instance (g.T.LendsTerms.meaning c.args.right_bind.now) (tree_of c.args.right.now) in
    c.against_truth.ensures
    ∙ ap (compare_trees s)
    (sym (truth-is c.against_truth-of_right.result t c.against_truth-of_right.ensures (sym c.is_equal.ensures ∙ c.if-is_equal.true)))

pub returns-then-is_equal-2 : goal.returns-then-is_equal-2
returns-then-is_equal-2 g c =
    let s = instance (g.S.LendsTerms.meaning c.args.left_bind.now) (tree_of c.args.left.now) in
    let t = instance (g.T.LendsTerms.meaning c.args.right_bind.now) (tree_of c.args.right.now) in
    let truth : s ≡ true_tree =
    truth-is c.against_truth-of_left.result s c.against_truth-of_left.ensures (sym c.is_equal-2.ensures ∙ c.if-is_equal-2.true) in
    ap comparison_of c.reversed.ensures
    ∙ compared-reversed c.against_truth-of_right.result t true_tree c.against_truth-of_right.ensures
    ∙ ap (λ x. compare_trees x t) (sym truth)
