use Rattle.std.proofs.Common.{◌++◌, map, take, append_assoc, ap, sym, ◌∙◌}
use Rattle.fol_base.specs.Tree.{tree_variables}
use Rattle.std.specs.Prelude.{flat_map}
use Rattle.fol_base.specs.Clause.{literal_variables}
use Rattle.fol_base.specs.Literal.{literal_of}
use Rattle.fol_base.specs.Term.{tree_of}
use Rattle.fol_base.proofs.AboutTerms.VariableLemmas.{literals_variables-take_more}
use Rattle.fol_base.proofs.clause.Clause.variables.Goals as goal

pub loop-literal-preserved : goal.loop-literal-preserved
loop-literal-preserved c =
    c.in_ok-push_variables-2.ensures.added
    ∙ ap (λ vs. vs ++ tree_variables (tree_of c.literal-item.result.right))
    (c.in_ok-push_variables.ensures.added ∙ ap (λ vs. vs ++ tree_variables (tree_of c.literal-item.result.left)) c.loop-literal.invariant)
    ∙ append_assoc (flat_map literal_variables (map literal_of (take c.loop-literal.literal-index c.as_slice-literal-items.result.now))) (tree_variables (tree_of c.literal-item.result.left)) (tree_variables (tree_of c.literal-item.result.right))
    ∙ sym (literals_variables-take_more _ _ _ c.loop-literal-test.true c.literal-item.is)
