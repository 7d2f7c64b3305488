use Rattle.std.proofs.Common.{length, ap, sym, ◌∙◌}
use Rattle.fol_base.specs.Term.{tree_of}
use Rattle.fol_base.proofs.AboutTerms.TreeLemmas.{list_of-trees_of}
use Rattle.disc_tree.specs.Path.{head}
use Rattle.disc_tree.specs.declared.label.Label.TheVariants.{Symbol}
use Rattle.disc_tree.proofs.label.Label.of.Goals as goal

pub returns-in-App : goal.returns-in-App
returns-in-App c =
    ap (Symbol c.in-App.symbol) (c.len.ensures ∙ ap length (sym (list_of-trees_of c.in-App.arguments)))
    ∙ sym (ap (λ t. head (tree_of t)) c.in-App.is)
