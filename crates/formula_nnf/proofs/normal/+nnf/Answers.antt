use Rattle.std.proofs.Common.{◌++◌, ap, ◌∙◌, arith}
use Rattle.tptp_tree.specs.Formula.{formulas_of}
use Rattle.tptp_tree.proofs.SizeLemmas.{formula-item-is}
use Rattle.formula_nnf.proofs.FormLemmas.{listed, forms_left}
use Rattle.formula_nnf.proofs.normal.+nnf.Goals as goal

pub nnfs-loop-formula-init : goal.nnfs-loop-formula-init
nnfs-loop-formula-init t c =
    ap (λ xs. formulas_of (xs ++ forms_left c.args.formulas.now 0 c.args.positive)) c.new-forms.ensures ∙ listed _

pub nnfs-nnf-requires : goal.nnfs-nnf-requires
nnfs-nnf-requires t c =
    (omega (arith, formula-item-is _ _ _ c.loop-formula-test.true c.formula-item.is, c.decreases), tt)
