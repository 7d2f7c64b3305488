use Rattle.std.proofs.Common.{arith, rules, ◌<◌, ◌+◌, ◌*◌, ◌∙◌, ap, sym, refl, min, map, ◌^◌, ◌-◌}
use Rattle.fol_base.specs.Tree.{tree_size, trees_size, trees_of}
use Rattle.fol_base.specs.Term.{tree_of}
use Rattle.fol_base.proofs.ListLemmas.{stopped_sum}
use Rattle.fol_base.proofs.AboutTerms.TermLemmas.{tree_size-item}
use Rattle.fol_base.proofs.AboutInstances.InstanceSizes.{instances_size-take_more}
use Rattle.fol_base.proofs.instance.+instance_size.Goals as goal

pub instance_sizes-instance_size-requires : goal.instance_sizes-instance_size-requires
instance_sizes-instance_size-requires g t c =
    let smaller : 2 * tree_size (tree_of c.term-item.result) < 2 * trees_size (trees_of (map tree_of c.args.terms.now)) + 1 =
    omega (arith, tree_size-item c.args.terms.now (map tree_of c.args.terms.now) _ _ refl c.loop-term-test.true c.term-item.is) in
    search rules

pub instance_sizes-loop-term-preserved : goal.instance_sizes-loop-term-preserved
instance_sizes-loop-term-preserved g t c =
    stopped_sum _ _ _ _ _ _ c.loop-term.invariant c.instance_size.ensures c.saturating_add-total.ensures
    ∙ ap (λ n. min n (2 ^ 64 - 1)) (sym (instances_size-take_more _ _ _ _ c.loop-term-test.true c.term-item.is))

pub instance_size-instance_sizes-requires : goal.instance_size-instance_sizes-requires
instance_size-instance_sizes-requires g t c =
    let smaller : 2 * trees_size (trees_of (map tree_of c.as_slice.result.now)) + 1 < 2 * tree_size (tree_of c.args.term.now) =
    omega (arith, ap (λ ts. trees_size (trees_of ts)) c.as_slice.ensures, ap (λ x. tree_size (tree_of x)) c.in-App.is) in
    search rules
