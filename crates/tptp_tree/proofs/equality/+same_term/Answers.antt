use Rattle.std.proofs.lemmas.List.{length-map}
use Rattle.std.proofs.Common.{arith, map, sym, ◌∙◌}
use Rattle.tptp_tree.specs.Shape.{term_of}
use Rattle.tptp_tree.proofs.AboutTrees.SizeLemmas.{term-item-is}
use Rattle.tptp_tree.proofs.AboutTrees.EqualityLemmas.{terms-lengths}
use Rattle.tptp_tree.proofs.equality.+same_term.Goals as goal

pub same_terms-returns-then-left-right : goal.same_terms-returns-then-left-right
same_terms-returns-then-left-right t c =
    terms-lengths (map term_of c.args.left.now) (map term_of c.args.right.now)
    (λ e. c.if-left-right.true (sym (length-map c.args.left.now term_of) ∙ e ∙ length-map c.args.right.now term_of))

pub same_terms-same_term-requires : goal.same_terms-same_term-requires
same_terms-same_term-requires t c =
    (omega (arith, term-item-is _ _ _ c.loop-index-test.true c.index-left-index.is, c.decreases), tt)
