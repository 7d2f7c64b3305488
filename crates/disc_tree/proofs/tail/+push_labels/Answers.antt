use Rattle.std.proofs.Common.{◌≡◌, ◌++◌, ◌∷◌, [], List, map, ap, sym, ◌∙◌, append_assoc, arith}
use Rattle.fol_base.specs.Term.{tree_of}
use Rattle.disc_tree.specs.declared.label.Label.{Label}
use Rattle.disc_tree.specs.Path.{path_of_all}
use Rattle.disc_tree.specs.Work.{trees_left}
use Rattle.disc_tree.proofs.AboutChanges.EditLemmas.{work-falls, path-step}
use Rattle.disc_tree.proofs.AboutQueries.FoundLemmas.{if_ok-map}
use Rattle.disc_tree.proofs.tail.+push_labels.Goals as goal

pub push_labels-requires : goal.push_labels-requires
push_labels-requires t c = (
  omega (
    arith,
    c.decreases,
    work-falls (trees_left c.args.rest.now) (map tree_of c.in-Then.more.now ++ trees_left c.in-Then.below.now)
        (trees_left c.of-after.result) (trees_left c.of-next.result) (map tree_of c.arguments_of.result.now) (tree_of c.in-Then.first.now)
        (ap trees_left c.in-Then.is) c.of-after.ensures c.of-next.ensures c.arguments_of.ensures,
  ),
  tt,
)

pub returns : goal.returns
returns t c =
    let p : List Label = path_of_all (trees_left c.of-next.result) in
    let whole : path_of_all (trees_left c.args.rest.now) ≡ c.of.result ∷ p =
    path-step (trees_left c.args.rest.now) (map tree_of c.in-Then.more.now ++ trees_left c.in-Then.below.now)
    (trees_left c.of-after.result) (trees_left c.of-next.result) (map tree_of c.arguments_of.result.now) (tree_of c.in-Then.first.now)
    c.of.result (ap trees_left c.in-Then.is) c.of-after.ensures c.of-next.ensures c.arguments_of.ensures c.of.ensures in
    if_ok-map c.push_labels.result
    (λ e. e ∙ ap (λ ls. ls ++ p) c.in_ok-push.ensures.items ∙ append_assoc c.args.labels.now.items (c.of.result ∷ []) p
    ∙ ap (λ q. c.args.labels.now.items ++ q) (sym whole))
    c.push_labels.ensures
