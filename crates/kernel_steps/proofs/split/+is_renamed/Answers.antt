use Rattle.std.proofs.Common.{◌<◌, ◌+◌, ◌*◌, map, refl, ap, sym, ◌∙◌, arith, rules}
use Rattle.std.proofs.lemmas.List.{length-map}
use Rattle.fol_base.specs.Tree.{tree_size, trees_size, trees_eq, trees_of}
use Rattle.fol_base.specs.Instance.{instance}
use Rattle.kernel_steps.specs.Split.{renamed}
use Rattle.fol_base.specs.Term.{tree_of}
use Rattle.fol_base.proofs.AboutTerms.TreeLemmas.{trees_eq-lengths, instances-trees_of}
use Rattle.fol_base.proofs.AboutTerms.TermLemmas.{tree_size-item, length-trees}
use Rattle.kernel_steps.proofs.split.+is_renamed.Goals as goal

pub are_all_renamed-returns-then-terms-targets : goal.are_all_renamed-returns-then-terms-targets
are_all_renamed-returns-then-terms-targets t c =
    let σ = renamed c.args.places.now in
    let ts = map tree_of c.args.terms.now in
    trees_eq-lengths (map (instance σ) ts) (map tree_of c.args.targets.now)
    (λ e. c.if-terms-targets.true
    (sym (length-trees c.args.terms.now) ∙ sym (length-map ts (instance σ)) ∙ e ∙ length-trees c.args.targets.now))
    ∙ ap (λ us. trees_eq us (trees_of (map tree_of c.args.targets.now))) (sym (instances-trees_of σ ts))

pub are_all_renamed-is_renamed-requires : goal.are_all_renamed-is_renamed-requires
are_all_renamed-is_renamed-requires t c =
    let smaller : 2 * tree_size (tree_of c.index-terms-index.result) < 2 * trees_size (trees_of (map tree_of c.args.terms.now)) + 1 =
    omega (arith, tree_size-item c.args.terms.now (map tree_of c.args.terms.now) _ _ refl c.loop-index-test.true c.index-terms-index.is) in
    search rules
