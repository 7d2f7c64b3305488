use Rattle.std.proofs.Common.{arith, ap, sym, ◌∙◌}
use Rattle.fol_base.specs.Tree.{application, trees_of}
use Rattle.fol_base.specs.Instance.{substitution, instance}
use Rattle.fol_base.specs.Term.{tree_of}
use Rattle.fol_base.proofs.AboutTerms.TreeLemmas.{instances-trees_of}
use Rattle.fol_base.proofs.AboutTerms.TermLemmas.{tree_size-item, VariablesBelow-item}
use Rattle.fol_base.proofs.substitution.+apply.Goals as goal

pub apply-returns-in_ok-apply_all-in-App : goal.apply-returns-in_ok-apply_all-in-App
apply-returns-in_ok-apply_all-in-App t c =
    ap (λ us. application c.in-App.symbol (trees_of us)) c.in_ok-apply_all-in-App.ensures
    ∙ ap (application c.in-App.symbol) (sym (instances-trees_of (substitution c.args.subst.now) c.in-App.arguments))
    ∙ ap (λ u. instance (substitution c.args.subst.now) (tree_of u)) (sym c.in-App.is)

pub apply_all-apply-requires : goal.apply_all-apply-requires
apply_all-apply-requires t c = (
  omega (arith, tree_size-item _ _ _ _ c.as_slice-term-items.ensures c.loop-term-test.true c.term-item.is, c.decreases),
  VariablesBelow-item _ _ _ _ _ c.as_slice-term-items.ensures c.loop-term-test.true c.term-item.is c.requires,
)
