use Rattle.std.proofs.Common.{arith}
use Rattle.tptp_tree.proofs.SizeLemmas.{formula-item-is}
use Rattle.axiom_filter.proofs.numbering.+push_formula_symbols.Goals as goal

pub push_formulas_symbols-push_formula_symbols-requires : goal.push_formulas_symbols-push_formula_symbols-requires
push_formulas_symbols-push_formula_symbols-requires t c =
    (omega (arith, formula-item-is _ _ _ c.loop-formula-test.true c.formula-item.is, c.decreases), tt)
