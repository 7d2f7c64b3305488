use Rattle.std.proofs.Common.{ap₂, ◌∙◌}
use Rattle.fol_base.specs.Tree.{Tree, tree_variables}
use Rattle.fol_base.specs.Clause.{TreeLiteral}
use Rattle.fol_base.specs.Term.{tree_of}
use Rattle.fol_base.proofs.AboutCanonical.WalkLemmas.{left-kept}
use Rattle.fol_base.proofs.canonical_form.numbered_literal.Goals as goal

pub returns-clause-form : goal.returns-clause-form
returns-clause-form c =
    ap₂ (λ (t u : Tree). let l : TreeLiteral = record { positive = c.args.literal.now.positive; left = t; right = u } in l)
    (c.in_ok-left.ensures.form
    ∙ left-kept c.args.numbering.now c.numbered_term.new.numbering c.numbered_term-2.new.numbering (tree_of c.args.literal.now.left)
    (tree_variables (tree_of c.args.literal.now.right)) c.in_ok-left.ensures.met c.in_ok-right.ensures.met)
    c.in_ok-right.ensures.form
