use Rattle.std.proofs.Common.{◌≡◌, ◌∙◌, map, ap, refl, sym, arith}
use Rattle.fol_base.specs.Tree.{application, trees_of}
use Rattle.fol_base.specs.Instance.{instance}
use Rattle.fol_base.specs.Term.{tree_of}
use Rattle.fol_base.proofs.AboutTerms.TermLemmas.{tree_size-item}
use Rattle.fol_base.proofs.AboutTerms.TreeLemmas.{instances-trees_of}
use Rattle.unifier.specs.Matching.{by_pairs}
use Rattle.unifier.proofs.matched.Matched.+apply.Goals as goal

pub apply-returns-in_ok-apply_all-in-App : goal.apply-returns-in_ok-apply_all-in-App
apply-returns-in_ok-apply_all-in-App t c =
    let σ = by_pairs c.args.self.now in
    ap (λ us. application c.in-App.symbol (trees_of us)) c.in_ok-apply_all-in-App.ensures
    ∙ ap (λ us. application c.in-App.symbol (trees_of (map (instance σ) us))) c.as_slice.ensures
    ∙ ap (application c.in-App.symbol) (sym (instances-trees_of σ c.in-App.arguments))
    ∙ ap (λ u. instance σ (tree_of u)) (sym c.in-App.is)

pub apply_all-apply-requires : goal.apply_all-apply-requires
apply_all-apply-requires t c =
    (omega (arith, tree_size-item _ _ _ _ (let e : map tree_of c.args.terms.now ≡ map tree_of c.args.terms.now = refl in e) c.loop-term-test.true c.term-item.is, c.decreases), tt)
