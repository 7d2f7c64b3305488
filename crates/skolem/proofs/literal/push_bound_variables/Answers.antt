use Rattle.std.proofs.Common.{◌++◌, map, take, append_assoc, take_all, arith, ap, sym, ◌∙◌}
use Rattle.std.specs.Prelude.{flat_map}
use Rattle.fol_base.specs.Tree.{tree_variables}
use Rattle.skolem.specs.BoundTerm.{bound_tree}
use Rattle.skolem.proofs.AboutBindings.BoundTermLemmas.{variables-of-more}
use Rattle.skolem.proofs.literal.push_bound_variables.Goals as goal

pub loop-term-preserved : goal.loop-term-preserved
loop-term-preserved c =
    c.in_default.ensures.added
    ∙ ap (λ vs. vs ++ tree_variables (bound_tree c.term-item.result)) c.loop-term.invariant
    ∙ append_assoc c.args.found.now.items (flat_map tree_variables (map bound_tree (take c.loop-term.term-index c.args.terms.now)))
    (tree_variables (bound_tree c.term-item.result))
    ∙ ap (λ vs. c.args.found.now.items ++ vs) (sym (variables-of-more _ _ _ c.loop-term-test.true c.term-item.is))
