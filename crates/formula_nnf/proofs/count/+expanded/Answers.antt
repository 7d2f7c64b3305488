use Rattle.std.proofs.Common.{arith}
use Rattle.tptp_tree.proofs.SizeLemmas.{formula-item-is}
use Rattle.formula_nnf.proofs.FormLemmas.{expanded-step, expanded-end}
use Rattle.formula_nnf.proofs.count.+expanded.Goals as goal

pub all_expanded-expanded-requires : goal.all_expanded-expanded-requires
all_expanded-expanded-requires t c =
    (omega (arith, formula-item-is _ _ _ c.loop-formula-test.true c.formula-item.is, c.decreases), tt)

pub all_expanded-loop-formula-preserved : goal.all_expanded-loop-formula-preserved
all_expanded-loop-formula-preserved t c = (
  omega (arith, c.saturating_add-total.ensures),
  omega (
    arith,
    expanded-step _ _ _ c.loop-formula-test.true c.formula-item.is,
    c.expanded.ensures,
    c.saturating_add-total.ensures,
    c.loop-formula.invariant.1,
  ),
)

pub all_expanded-returns : goal.all_expanded-returns
all_expanded-returns t c =
    omega (arith, expanded-end _ _ c.loop-formula-test.false, c.loop-formula.invariant.0, c.loop-formula.invariant.1)
