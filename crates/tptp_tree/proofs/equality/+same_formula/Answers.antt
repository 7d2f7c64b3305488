use Rattle.std.proofs.lemmas.List.{length-map}
use Rattle.std.proofs.Common.{arith, map, sym, ◌∙◌}
use Rattle.tptp_tree.specs.Shape.{formula_of}
use Rattle.tptp_tree.proofs.AboutTrees.SizeLemmas.{formula-item-is}
use Rattle.tptp_tree.proofs.AboutTrees.EqualityLemmas.{formulas-lengths}
use Rattle.tptp_tree.proofs.equality.+same_formula.Goals as goal

pub same_formulas-returns-then-left-right : goal.same_formulas-returns-then-left-right
same_formulas-returns-then-left-right t c =
    formulas-lengths (map formula_of c.args.left.now) (map formula_of c.args.right.now)
    (λ e. c.if-left-right.true (sym (length-map c.args.left.now formula_of) ∙ e ∙ length-map c.args.right.now formula_of))

pub same_formulas-are_same-requires : goal.same_formulas-are_same-requires
same_formulas-are_same-requires t c =
    (omega (arith, formula-item-is _ _ _ c.loop-index-test.true c.index-left-index.is, c.decreases), tt)
