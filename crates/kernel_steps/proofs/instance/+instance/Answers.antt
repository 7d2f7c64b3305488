use Rattle.std.proofs.Common.{arith, rules, ◌<◌, ◌+◌, ◌*◌, ◌∙◌, ap, sym, refl, map}
use Rattle.fol_base.specs.Tree.{application, tree_size, trees_size, trees_of}
use Rattle.fol_base.specs.Term.{tree_of}
use Rattle.fol_base.specs.Instance.{instance}
use Rattle.fol_base.proofs.AboutTerms.TreeLemmas.{instances-trees_of}
use Rattle.fol_base.proofs.AboutTerms.TermLemmas.{tree_size-item}
use Rattle.kernel_steps.proofs.instance.+instance.Goals as goal

pub instance-returns-in_ok-instances-in-App : goal.instance-returns-in_ok-instances-in-App
instance-returns-in_ok-instances-in-App g t c =
    let σ = g.S.LendsTerms.meaning c.args.bind.now in
    ap (λ us. application c.in-App.symbol (trees_of us)) c.in_ok-instances-in-App.ensures
    ∙ ap (λ us. application c.in-App.symbol (trees_of (map (instance σ) us))) c.as_slice.ensures
    ∙ ap (application c.in-App.symbol) (sym (instances-trees_of σ c.in-App.arguments))
    ∙ ap (λ u. instance σ (tree_of u)) (sym c.in-App.is)

pub instances-instance-requires : goal.instances-instance-requires
instances-instance-requires g t c =
    let smaller : 2 * tree_size (tree_of c.term-item.result) < 2 * trees_size (trees_of (map tree_of c.args.terms.now)) + 1 =
    omega (arith, tree_size-item c.args.terms.now (map tree_of c.args.terms.now) _ _ refl c.loop-term-test.true c.term-item.is) in
    search rules
