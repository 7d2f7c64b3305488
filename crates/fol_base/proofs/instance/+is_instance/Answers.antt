use Rattle.std.proofs.Common.{arith, rules, ◌<◌, ◌+◌, ◌*◌, ◌∙◌, ap, sym, refl, map}
use Rattle.fol_base.specs.Term.{tree_of}
use Rattle.fol_base.specs.Tree.{tree_size, trees_size, trees_eq, trees_of}
use Rattle.fol_base.specs.Instance.{instance}
use Rattle.std.proofs.lemmas.List.{length-map}
use Rattle.fol_base.proofs.AboutTerms.TreeLemmas.{trees_eq-lengths, instances-trees_of}
use Rattle.fol_base.proofs.AboutTerms.TermLemmas.{tree_size-item, length-trees}
use Rattle.fol_base.proofs.instance.+is_instance.Goals as goal

pub are_instances-returns-then-terms-targets : goal.are_instances-returns-then-terms-targets
are_instances-returns-then-terms-targets g t c =
    let σ = g.S.LendsTerms.meaning c.args.subst.now in
    let ts = map tree_of c.args.terms.now in
    trees_eq-lengths (map (instance σ) ts) (map tree_of c.args.targets.now)
    (λ e. c.if-terms-targets.true (sym (length-trees c.args.terms.now) ∙ sym (length-map ts (instance σ)) ∙ e ∙ length-trees c.args.targets.now))
    ∙ ap (λ us. trees_eq us (trees_of (map tree_of c.args.targets.now))) (sym (instances-trees_of σ ts))

pub are_instances-is_instance-requires : goal.are_instances-is_instance-requires
are_instances-is_instance-requires g t c =
    let smaller : 2 * tree_size (tree_of c.index-terms-index.result) < 2 * trees_size (trees_of (map tree_of c.args.terms.now)) + 1 =
    omega (arith, tree_size-item c.args.terms.now (map tree_of c.args.terms.now) _ _ refl c.loop-index-test.true c.index-terms-index.is) in
    search rules
