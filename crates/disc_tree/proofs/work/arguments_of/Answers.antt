use Rattle.std.proofs.Common.{ap, sym, ◌∙◌}
use Rattle.fol_base.specs.Term.{tree_of}
use Rattle.fol_base.proofs.AboutTerms.TreeLemmas.{list_of-trees_of}
use Rattle.disc_tree.specs.Path.{arguments}
use Rattle.disc_tree.proofs.work.arguments_of.Goals as goal

pub returns-in-App : goal.returns-in-App
returns-in-App c =
    c.as_slice.ensures ∙ sym (list_of-trees_of c.in-App.arguments) ∙ sym (ap (λ t. arguments (tree_of t)) c.in-App.is)
