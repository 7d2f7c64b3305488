use Rattle.std.proofs.Common.{arith, rules, ◌<◌, ◌+◌, ◌*◌, ◌∙◌, ap, ap₂, sym, refl, map}
use Rattle.fol_base.specs.Term.{tree_of}
use Rattle.fol_base.specs.Tree.{tree_size, trees_size, tree_eq, trees_eq, trees_of}
use Rattle.fol_base.specs.Instance.{instance}
use Rattle.std.proofs.lemmas.List.{length-map}
use Rattle.fol_base.proofs.AboutTerms.TreeLemmas.{tree_eq-sym, trees_eq-lengths, instances-trees_of}
use Rattle.fol_base.proofs.AboutTerms.TermLemmas.{tree_size-item, length-trees}
use Rattle.fol_base.proofs.instance.+same_instance.Goals as goal

pub same_instances-returns-then-left-right : goal.same_instances-returns-then-left-right
same_instances-returns-then-left-right g t c =
    let σ = g.S.LendsTerms.meaning c.args.left_subst.now in
    let τ = g.T.LendsTerms.meaning c.args.right_subst.now in
    let ts = map tree_of c.args.left.now in
    let us = map tree_of c.args.right.now in
    trees_eq-lengths (map (instance σ) ts) (map (instance τ) us)
    (λ e. c.if-left-right.true (sym (length-trees c.args.left.now) ∙ sym (length-map ts (instance σ)) ∙ e ∙ length-map us (instance τ) ∙ length-trees c.args.right.now))
    ∙ ap₂ trees_eq (sym (instances-trees_of σ ts)) (sym (instances-trees_of τ us))

pub same_instances-same_instance-requires : goal.same_instances-same_instance-requires
same_instances-same_instance-requires g t c =
    let smaller : 2 * tree_size (tree_of c.index-left-index.result) < 2 * trees_size (trees_of (map tree_of c.args.left.now)) + 1 =
    omega (arith, tree_size-item c.args.left.now (map tree_of c.args.left.now) _ _ refl c.loop-index-test.true c.index-left-index.is) in
    search rules

pub same_instance-returns-in-Some : goal.same_instance-returns-in-Some
same_instance-returns-in-Some g t c =
    let right = instance (g.T.LendsTerms.meaning c.args.right_subst.now) (tree_of c.args.right.now) in
    c.is_instance.ensures ∙ tree_eq-sym right (tree_of c.in-Some.put.now)
    ∙ ap (λ s. tree_eq s right)
    (c.in-Some.ensures ∙ sym (ap (λ x. instance (g.S.LendsTerms.meaning c.args.left_subst.now) (tree_of x)) c.in-Var.is))
