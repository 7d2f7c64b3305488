use Rattle.std.proofs.Common.{arith, rules, ◌<◌, ◌+◌, ◌*◌, ◌∙◌, ap, sym, refl, map}
use Rattle.fol_base.specs.Tree.{application, tree_size, trees_size, trees_of}
use Rattle.fol_base.specs.Term.{tree_of}
use Rattle.fol_base.specs.Instance.{instance}
use Rattle.fol_base.proofs.AboutTerms.TreeLemmas.{instances-trees_of}
use Rattle.fol_base.proofs.AboutTerms.TermLemmas.{tree_size-item}
use Rattle.herbrand_list.specs.Worked.{putting}
use Rattle.herbrand_list.proofs.put_in.+put.Goals as goal

pub put_term-returns-in_ok-put_terms-in-App : goal.put_term-returns-in_ok-put_terms-in-App
put_term-returns-in_ok-put_terms-in-App t c =
    ap (λ us. application c.in-App.symbol (trees_of us)) c.in_ok-put_terms-in-App.ensures
    ∙ ap (λ us. application c.in-App.symbol (trees_of (map (instance (putting c.args.put.now)) us))) c.as_slice.ensures
    ∙ ap (application c.in-App.symbol) (sym (instances-trees_of (putting c.args.put.now) c.in-App.arguments))
    ∙ ap (λ u. instance (putting c.args.put.now) (tree_of u)) (sym c.in-App.is)

pub put_terms-put_term-requires : goal.put_terms-put_term-requires
put_terms-put_term-requires t c =
    let smaller : 2 * tree_size (tree_of c.term-item.result) < 2 * trees_size (trees_of (map tree_of c.args.terms.now)) + 1 =
    omega (arith, tree_size-item c.args.terms.now (map tree_of c.args.terms.now) _ _ refl c.loop-term-test.true c.term-item.is) in
    search rules
