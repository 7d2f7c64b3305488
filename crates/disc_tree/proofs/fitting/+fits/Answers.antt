use Rattle.std.proofs.Common.{◌≡◌, ◌∷◌, ◌++◌, map, refl, ap, sym, ◌∙◌, arith, rules}
use Rattle.fol_base.specs.Term.{tree_of}
use Rattle.disc_tree.specs.Children.{labels_left}
use Rattle.disc_tree.specs.Path.{same_label}
use Rattle.disc_tree.specs.Work.{trees_left, terms_left}
use Rattle.disc_tree.proofs.AboutQueries.TailLemmas.{symbol-fits, symbol-reads, symbol-ground}
use Rattle.disc_tree.proofs.fitting.+fits.Goals as goal

pub fits-returns-then-is_same-clause-fits : goal.fits-returns-then-is_same-clause-fits
fits-returns-then-is_same-clause-fits g t c =
    let labels : labels_left c.args.labels ≡ c.in-Some.label ∷ labels_left c.in-Some.others = search rules in
    c.fits-then-is_same.ensures.fits
    ∙ symbol-fits c.args.varying.entry c.args.varying.query (terms_left c.args.skipped.now) c.in-App.field-0 c.in-Symbol.field-0
    c.in-Symbol.field-1 (trees_left c.args.rest.now) (map tree_of c.in-Then.more.now ++ trees_left c.in-Then.below.now)
    (trees_left c.of-after.result) (trees_left c.of-next.result) c.in-App.arguments (tree_of c.in-Then.first.now) c.in-Some.label
    (labels_left c.args.labels) (labels_left c.in-Some.others) (ap terms_left c.in_default-skipped.is) (ap trees_left c.in-Then.is) c.of-after.ensures
    (ap tree_of c.in-App.is) (c.of-next.ensures ∙ ap (λ ts. ts ++ trees_left c.of-after.result) c.as_slice.ensures) labels c.in-Symbol.is
    (ap (same_label c.in-Some.label) (sym c.of.ensures) ∙ sym c.is_same.ensures ∙ c.if-is_same.true)

pub fits-returns-then-is_same-clause-steps : goal.fits-returns-then-is_same-clause-steps
fits-returns-then-is_same-clause-steps g t c none ground =
    let labels : labels_left c.args.labels ≡ c.in-Some.label ∷ labels_left c.in-Some.others = search rules in
    let next = c.of-next.ensures ∙ ap (λ ts. ts ++ trees_left c.of-after.result) c.as_slice.ensures in
    omega (
      arith,
      c.split_first.ensures.step,
      c.fits-then-is_same.ensures.steps refl
          (symbol-ground c.in-App.field-0 (trees_left c.args.rest.now) (map tree_of c.in-Then.more.now ++ trees_left c.in-Then.below.now)
          (trees_left c.of-after.result) (trees_left c.of-next.result) c.in-App.arguments (tree_of c.in-Then.first.now)
          (ap trees_left c.in-Then.is) c.of-after.ensures (ap tree_of c.in-App.is) next ground),
      symbol-reads c.in-App.field-0 c.in-Symbol.field-0
          c.in-Symbol.field-1 (trees_left c.args.rest.now) (map tree_of c.in-Then.more.now ++ trees_left c.in-Then.below.now)
          (trees_left c.of-after.result) (trees_left c.of-next.result) c.in-App.arguments (tree_of c.in-Then.first.now) c.in-Some.label
          (labels_left c.args.labels) (labels_left c.in-Some.others) (ap trees_left c.in-Then.is) c.of-after.ensures
          (ap tree_of c.in-App.is) next labels c.in-Symbol.is
          (ap (same_label c.in-Some.label) (sym c.of.ensures) ∙ sym c.is_same.ensures ∙ c.if-is_same.true),
    )

pub fits-returns-then-is_same-clause-visits : goal.fits-returns-then-is_same-clause-visits
fits-returns-then-is_same-clause-visits g t c entry none ground =
    let labels : labels_left c.args.labels ≡ c.in-Some.label ∷ labels_left c.in-Some.others = search rules in
    let next = c.of-next.ensures ∙ ap (λ ts. ts ++ trees_left c.of-after.result) c.as_slice.ensures in
    omega (
      arith,
      c.split_first.ensures.step,
      c.fits-then-is_same.ensures.visits entry refl
          (symbol-ground c.in-App.field-0 (trees_left c.args.rest.now) (map tree_of c.in-Then.more.now ++ trees_left c.in-Then.below.now)
          (trees_left c.of-after.result) (trees_left c.of-next.result) c.in-App.arguments (tree_of c.in-Then.first.now)
          (ap trees_left c.in-Then.is) c.of-after.ensures (ap tree_of c.in-App.is) next ground),
      symbol-reads c.in-App.field-0 c.in-Symbol.field-0
          c.in-Symbol.field-1 (trees_left c.args.rest.now) (map tree_of c.in-Then.more.now ++ trees_left c.in-Then.below.now)
          (trees_left c.of-after.result) (trees_left c.of-next.result) c.in-App.arguments (tree_of c.in-Then.first.now) c.in-Some.label
          (labels_left c.args.labels) (labels_left c.in-Some.others) (ap trees_left c.in-Then.is) c.of-after.ensures
          (ap tree_of c.in-App.is) next labels c.in-Symbol.is
          (ap (same_label c.in-Some.label) (sym c.of.ensures) ∙ sym c.is_same.ensures ∙ c.if-is_same.true),
    )
