use Rattle.std.proofs.Common.{◌≡◌, ◌∷◌, ◌++◌, List, map, ap, ap₂, sym, ◌∙◌, rules}
use Rattle.fol_base.specs.Term.{tree_of}
use Rattle.disc_tree.specs.declared.label.Label.{Label}
use Rattle.disc_tree.specs.Path.{path_of_all}
use Rattle.disc_tree.specs.Work.{trees_left}
use Rattle.disc_tree.proofs.AboutPaths.LabelLemmas.{same-label-is}
use Rattle.disc_tree.proofs.AboutChanges.EditLemmas.{path-step}
use Rattle.disc_tree.proofs.tail.+is_path.Goals as goal

pub returns : goal.returns
returns t c =
    let p : List Label = path_of_all (trees_left c.of-next.result) in
    let labels : c.args.labels.now ≡ c.in-Some.label.now ∷ c.in-Some.others.now = search rules in
    let same : c.in-Some.label.now ≡ c.of.result =
    same-label-is c.in-Some.label.now c.of.result (sym c.is_same.ensures ∙ c.if-not-is_same.false) in
    let whole : path_of_all (trees_left c.args.rest.now) ≡ c.of.result ∷ p =
    path-step (trees_left c.args.rest.now) (map tree_of c.in-Then.more.now ++ trees_left c.in-Then.below.now)
    (trees_left c.of-after.result) (trees_left c.of-next.result) (map tree_of c.arguments_of.result.now) (tree_of c.in-Then.first.now)
    c.of.result (ap trees_left c.in-Then.is) c.of-after.ensures c.of-next.ensures c.arguments_of.ensures c.of.ensures in (
      λ h. labels ∙ ap₂ (λ (l : Label) (q : List Label). l ∷ q) same (c.is_path.ensures.0 h) ∙ sym whole,
      λ h.
          let both : c.in-Some.label.now ∷ c.in-Some.others.now ≡ c.of.result ∷ p = sym labels ∙ h ∙ whole in
          let others : c.in-Some.others.now ≡ p = cc in
          c.is_path.ensures.1 others,
    )
