use Rattle.std.proofs.Common.{◌++◌, arith, ap, refl, sym, subst, map, ◌∙◌}
use Rattle.tptp_tree.specs.Shape.{term_of}
use Rattle.tptp_tree.proofs.SizeLemmas.{term-item-is}
use Rattle.fol_base.specs.Tree.{trees_of}
use Rattle.signature.specs.declared.symbol.SymbolKind.TheVariants.{Function}
use Rattle.signature.specs.Occurrences.{term_symbols}
use Rattle.skolem.specs.BoundTerm.{bound_tree}
use Rattle.skolem.specs.Skolemized.{AreKnown}
use Rattle.skolem.specs.Literal.{filled}
use Rattle.skolem.proofs.AboutBindings.TermLemmas.{known-then, head-known}
use Rattle.skolem.proofs.AboutFormulas.LiteralLemmas.{fills_left, head-filled}
use Rattle.fol_base.proofs.AboutTerms.TreeLemmas.{trees_of-list_of}
use Rattle.skolem.proofs.filling.+filled.Goals as goal

pub filled-number_in-requires : goal.filled-number_in-requires
filled-number_in-requires t c =
    record {
      known =
          head-known c.args.signature.now Function c.in-App.name _ c.in-App.arguments _ c.as_slice.ensures c.as_slice-in-App.ensures
          (subst (λ u. AreKnown c.args.signature.now (term_symbols (term_of u))) c.in-App.is c.requires.known);
    }

pub filled_terms-loop-term-init : goal.filled_terms-loop-term-init
filled_terms-loop-term-init t c = (
  ap (λ us. trees_of (us ++ fills_left c.args.signature.now c.args.terms.now 0 (map bound_tree c.args.bound.now))) c.new-trees.ensures ∙ trees_of-list_of _,
  refl,
  c.requires.known,
)

pub filled_terms-filled-requires : goal.filled_terms-filled-requires
filled_terms-filled-requires t c = (
  omega (arith, term-item-is _ _ _ c.loop-term-test.true c.term-item.is, c.decreases),
  (known-then c.args.signature.now _ _ c.term-item.result c.loop-term-test.true c.term-item.is c.loop-term.invariant.2).0,
)

pub filled-returns-in_ok-arguments-in-App-clause-tree : goal.filled-returns-in_ok-arguments-in-App-clause-tree
filled-returns-in_ok-arguments-in-App-clause-tree t c =
    head-filled c.args.signature.now Function c.in-App.name _ c.in-App.arguments _ _ _ c.in_ok-arguments-in-App.arguments
    (map bound_tree c.args.terms.now) c.as_slice.ensures c.as_slice-in-App.ensures c.as_slice-in-App-2.ensures
    c.in_ok-number-in-App.ensures c.in_ok-arguments-in-App.ensures.trees
    ∙ sym (ap (λ u. filled c.args.signature.now (term_of u) (map bound_tree c.args.terms.now)) c.in-App.is)
