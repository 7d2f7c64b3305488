use Rattle.std.proofs.Common.{ap, sym, ◌∙◌}
use Rattle.fol_base.specs.Tree.{application, is_truth, trees_of}
use Rattle.fol_base.specs.Term.{tree_of}
use Rattle.fol_base.proofs.AboutTerms.TreeLemmas.{is_truth-arguments}
use Rattle.fol_base.proofs.term.Term.is_truth.Goals as goal

pub returns-then-symbol-eq-TRUE_SYMBOL : goal.returns-then-symbol-eq-TRUE_SYMBOL
returns-then-symbol-eq-TRUE_SYMBOL c =
    is_truth-arguments c.is_empty.result c.in-App.arguments c.is_empty.ensures
    ∙ ap (λ f. is_truth (application f (trees_of c.in-App.arguments))) (sym c.if-symbol-eq-TRUE_SYMBOL.true)
    ∙ sym (ap (λ x. is_truth (tree_of x)) c.in-App.is)
