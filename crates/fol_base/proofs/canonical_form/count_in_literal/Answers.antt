use Rattle.std.proofs.Common.{ap, sym, ◌∙◌}
use Rattle.std.specs.Prelude.{option_and_then}
use Rattle.fol_base.specs.Tree.{tree_variables}
use Rattle.fol_base.specs.Numbering.{count_after}
use Rattle.fol_base.specs.Term.{tree_of}
use Rattle.fol_base.proofs.AboutCanonical.WalkLemmas.{count_after-append}
use Rattle.fol_base.proofs.canonical_form.count_in_literal.Goals as goal

pub returns-in_err-met-clause-value : goal.returns-in_err-met-clause-value
returns-in_err-met-clause-value c =
    let right = tree_variables (tree_of c.args.literal.now.right) in
    c.from_residual.ensures
    ∙ ap (option_and_then (λ m. count_after m right)) c.in_err-met.ensures.value
    ∙ sym (count_after-append c.args.count (tree_variables (tree_of c.args.literal.now.left)) right)

pub returns-clause-value : goal.returns-clause-value
returns-clause-value c =
    let right = tree_variables (tree_of c.args.literal.now.right) in
    c.count_in_term-2.ensures.value
    ∙ ap (option_and_then (λ m. count_after m right)) c.in_ok-met.ensures.value
    ∙ sym (count_after-append c.args.count (tree_variables (tree_of c.args.literal.now.left)) right)
