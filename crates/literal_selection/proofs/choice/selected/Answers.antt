use Rattle.std.proofs.Common.{◌≡◌, List, None, ◌↔◌, ◌∙◌, sym, subst}
use Rattle.fol_base.specs.Clause.{TreeLiteral}
use Rattle.fol_base.specs.Selection.{select_negative, chosen}
use Rattle.literal_selection.specs.Mode.{HasNoChoice}
use Rattle.literal_selection.specs.declared.choice.Selection.{Selection}
use Rattle.literal_selection.specs.declared.choice.Selection.TheVariants.{Negative}
use Rattle.literal_selection.proofs.SelectedLemmas.{chosen-none, none-chosen}
use Rattle.literal_selection.proofs.choice.selected.Goals as goal

none : (mode : Selection) (ls : List TreeLiteral) → mode ≡ Negative → (chosen select_negative ls ≡ None) ↔ HasNoChoice mode ls
none mode ls e = subst (λ (m : Selection). (chosen select_negative ls ≡ None) ↔ HasNoChoice m ls) (sym e) (chosen-none ls, none-chosen ls)

pub returns-in-Negative-clause-none : goal.returns-in-Negative-clause-none
returns-in-Negative-clause-none g c =
    let ls = g.L.LendsLiterals.meaning c.args.literals.now in
    let both = none c.args.mode ls c.in-Negative.is in (
      λ e. both.0 (sym c.first_largest_negative.ensures ∙ e),
      λ e. c.first_largest_negative.ensures ∙ both.1 e,
    )
