use Rattle.std.proofs.Common.{◌≡◌, arith, map, sym, ◌∙◌, refl}
use Rattle.fol_base.specs.Term.{tree_of}
use Rattle.fol_base.proofs.AboutTerms.TreeLemmas.{trees_eq-lengths}
use Rattle.fol_base.proofs.AboutTerms.TermLemmas.{tree_size-item, length-trees}
use Rattle.fol_base.proofs.equality.+same.Goals as goal

pub same_terms-returns-then-left-right : goal.same_terms-returns-then-left-right
same_terms-returns-then-left-right t c =
    trees_eq-lengths (map tree_of c.args.left.now) (map tree_of c.args.right.now)
    (λ e. c.if-left-right.true (sym (length-trees c.args.left.now) ∙ e ∙ length-trees c.args.right.now))

pub same_terms-same_term-requires : goal.same_terms-same_term-requires
same_terms-same_term-requires t c =
    (omega (arith, tree_size-item _ _ _ _ (let e : map tree_of c.args.left.now ≡ map tree_of c.args.left.now = refl in e) c.loop-index-test.true c.index-left-index.is, c.decreases), tt)
