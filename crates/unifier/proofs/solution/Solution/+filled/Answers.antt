use Rattle.std.proofs.Common.{◌≡◌, ◌∙◌, map, ap, refl, sym, arith}
use Rattle.fol_base.specs.Tree.{application, trees_of}
use Rattle.fol_base.specs.Instance.{instance}
use Rattle.fol_base.specs.Term.{tree_of}
use Rattle.fol_base.proofs.AboutTerms.TermLemmas.{tree_size-item}
use Rattle.fol_base.proofs.AboutTerms.TreeLemmas.{instances-trees_of}
use Rattle.fol_base.specs.declared.limits.TheConstants.{SIZE_LIMIT}
use Rattle.unifier.specs.Solution.{solved_form}
use Rattle.unifier.specs.SolvedForm.{substitution_of}
use Rattle.unifier.proofs.AboutLayouts.RenameLemmas.{filled-variable, item-below}
use Rattle.unifier.proofs.solution.Solution.+filled.Goals as goal

pub filled-returns-in_ok-all_filled-in-App : goal.filled-returns-in_ok-all_filled-in-App
filled-returns-in_ok-all_filled-in-App t c =
    let σ = substitution_of (solved_form c.args.self.now) c.args.side in
    ap (λ us. application c.in-App.symbol (trees_of us)) c.in_ok-all_filled-in-App.ensures
    ∙ ap (λ us. application c.in-App.symbol (trees_of (map (instance σ) us))) c.as_slice.ensures
    ∙ ap (application c.in-App.symbol) (sym (instances-trees_of σ c.in-App.arguments))
    ∙ ap (λ u. instance σ (tree_of u)) (sym c.in-App.is)

pub filled-returns-in-Var : goal.filled-returns-in-Var
filled-returns-in-Var t c =
    filled-variable c.named.result (solved_form c.args.self.now) c.args.side c.in-Var.variable c.code.result (tree_of c.args.term.now)
    (ap tree_of c.in-Var.is) c.code.ensures c.named.ensures

pub all_filled-filled-requires : goal.all_filled-filled-requires
all_filled-filled-requires t c = (
  omega (arith, tree_size-item _ _ _ _ (let e : map tree_of c.args.terms.now ≡ map tree_of c.args.terms.now = refl in e) c.loop-term-test.true c.term-item.is, c.decreases),
  (c.requires.names, item-below SIZE_LIMIT c.args.terms.now c.loop-term.term-index c.term-item.result c.loop-term-test.true c.term-item.is c.requires.below),
)
