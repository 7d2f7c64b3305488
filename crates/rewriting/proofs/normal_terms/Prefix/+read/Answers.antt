use Rattle.std.proofs.Common.{◌≡◌, List, arith, ap, map, refl}
use Rattle.std.proofs.lemmas.List.{take_all}
use Rattle.fol_base.specs.Tree.{trees_size, trees_of}
use Rattle.fol_base.specs.declared.term.Term.{Term}
use Rattle.fol_base.specs.Term.{tree_of}
use Rattle.fol_base.proofs.AboutTerms.TermLemmas.{tree_size-item, trees_size-take_more}
use Rattle.rewriting.proofs.normal_terms.Prefix.+read.Goals as goal

pub with_terms-with_term-requires : goal.with_terms-with_term-requires
with_terms-with_term-requires t c =
    (omega (arith, tree_size-item _ _ _ _ (let e : map tree_of c.args.terms.now ≡ map tree_of c.args.terms.now = refl in e) c.loop-index-test.true c.index-terms-index.is, c.decreases), tt)

pub with_terms-loop-index-preserved : goal.with_terms-loop-index-preserved
with_terms-loop-index-preserved t c =
    omega (
      arith,
      c.loop-index.invariant,
      c.in_ok-all.ensures,
      trees_size-take_more c.args.terms.now c.loop-index.index c.index-terms-index.result c.loop-index-test.true c.index-terms-index.is,
    )

pub with_terms-returns : goal.with_terms-returns
with_terms-returns t c =
    omega (
      arith,
      c.loop-index.invariant,
      ap (λ (xs : List Term). trees_size (trees_of (map tree_of xs))) (take_all c.loop-index.index c.args.terms.now (omega arith)),
    )
