use Rattle.std.proofs.Common.{map, take, arith, ap, ◌∙◌}
use Rattle.fol_base.specs.Canonical.{bound_of}
use Rattle.fol_base.specs.Tree.{trees_of, tree_variables, trees_variables}
use Rattle.fol_base.specs.Term.{tree_of}
use Rattle.fol_base.proofs.AboutTerms.TermLemmas.{tree_size-item}
use Rattle.fol_base.proofs.AboutTerms.VariableLemmas.{trees_variables-take_more, bound_of-append}
use Rattle.fol_base.proofs.term.+variable_bound.Goals as goal

pub Terms::variable_bound-variable_bound-requires : goal.Terms::variable_bound-variable_bound-requires
Terms::variable_bound-variable_bound-requires t c =
    (omega (arith, tree_size-item _ _ _ _ c.as_slice-term-items.ensures c.loop-term-test.true c.term-item.is, c.decreases), tt)

pub Terms::variable_bound-loop-term-preserved : goal.Terms::variable_bound-loop-term-preserved
Terms::variable_bound-loop-term-preserved t c =
    let more = ap bound_of (trees_variables-take_more c.as_slice-term-items.result.now c.loop-term.term-index c.term-item.result c.loop-term-test.true c.term-item.is) ∙ bound_of-append (trees_variables (trees_of (map tree_of (take c.loop-term.term-index c.as_slice-term-items.result.now)))) (tree_variables (tree_of c.term-item.result)) in
    (omega (arith, more), omega arith)
