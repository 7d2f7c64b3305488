use Rattle.std.proofs.Common.{◌++◌, map, take, append_assoc, arith, ap, sym, ◌∙◌}
use Rattle.fol_base.specs.Tree.{trees_of, tree_variables, trees_variables}
use Rattle.fol_base.specs.Term.{tree_of}
use Rattle.fol_base.proofs.AboutTerms.TermLemmas.{tree_size-item}
use Rattle.fol_base.proofs.AboutTerms.VariableLemmas.{trees_variables-take_more}
use Rattle.fol_base.proofs.variables.+push_variables.Goals as goal

pub push_all_variables-push_variables-requires : goal.push_all_variables-push_variables-requires
push_all_variables-push_variables-requires t c =
    (omega (arith, tree_size-item _ _ _ _ c.as_slice-term-items.ensures c.loop-term-test.true c.term-item.is, c.decreases), tt)

pub push_all_variables-loop-term-preserved : goal.push_all_variables-loop-term-preserved
push_all_variables-loop-term-preserved t c =
    c.in_default.ensures.added
    ∙ ap (λ vs. vs ++ tree_variables (tree_of c.term-item.result)) c.loop-term.invariant
    ∙ append_assoc c.args.found.now.items (trees_variables (trees_of (map tree_of (take c.loop-term.term-index c.as_slice-term-items.result.now)))) (tree_variables (tree_of c.term-item.result))
    ∙ ap (λ vs. c.args.found.now.items ++ vs) (sym (trees_variables-take_more _ _ _ c.loop-term-test.true c.term-item.is))
