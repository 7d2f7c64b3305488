use Rattle.std.proofs.Common.{◌≡◌, ◌<◌, ◌*◌, ◌++◌, [], ℕ, Bool, suc, ◌+◌, List, map, take, true, false, ap, sym, subst, ◌∙◌, append_assoc, append-nil, arith, rules, refl, if◌then◌else◌}
use Rattle.std.proofs.lemmas.List.{take_all}
use Rattle.fol_base.specs.Tree.{Tree}
use Rattle.fol_base.specs.Term.{tree_of}
use Rattle.disc_tree.specs.declared.label.Label.{Label}
use Rattle.disc_tree.specs.declared.label.Label.TheVariants.{Star}
use Rattle.disc_tree.specs.declared.node.Below.{Below}
use Rattle.disc_tree.specs.Path.{head, arity, fits}
use Rattle.disc_tree.specs.Work.{trees_left, terms_left}
use Rattle.disc_tree.specs.Rows.{rows, rows_at, weight, found_in, all_below, all_at, numbers_of}
use Rattle.disc_tree.specs.Children.{labels_left, rows_below}
use Rattle.disc_tree.specs.Prefixes.{VisitsEach}
use Rattle.disc_tree.proofs.AboutQueries.TailLemmas.{all-found, none-found, stays-below, visits-below}
use Rattle.disc_tree.proofs.AboutQueries.FoundLemmas.{if_ok-map, end-step, variable-step, star-step, application-step, children-more, found-passing, begins-trans}
use Rattle.disc_tree.proofs.AboutPaths.PrefixLemmas.{application-is, stays-star, stays-application, follows-child}
use Rattle.disc_tree.proofs.AboutQueries.VisitLemmas.{visits-application, visits-end, follows-each, follows-none}
use Rattle.disc_tree.proofs.query.+collect.Goals as goal

pub collect-returns-in_default-rest-clause-found : goal.collect-returns-in_default-rest-clause-found
collect-returns-in_default-rest-clause-found g t c =
    if_ok-map c.push_numbers.result
    (λ e. e ∙ ap (λ ns. c.args.found.now.items ++ ns)
    (ap numbers_of c.entries.ensures.entries
    ∙ sym (end-step c.args.varying.entry c.args.varying.query (terms_left c.args.skipped.now) (trees_left c.args.rest.now) c.args.node.now.0
    c.args.node.now.1 (ap terms_left c.in_default.is) (ap trees_left c.in_default-rest.is))))
    c.push_numbers.ensures.found

pub collect-returns-then-varying-clause-found : goal.collect-returns-then-varying-clause-found
collect-returns-then-varying-clause-found g t c =
    if_ok-map c.collect_children-then-varying.result
    (λ e. e ∙ ap (λ ns. c.args.found.now.items ++ ns)
    (sym (variable-step c.args.varying.entry c.args.varying.query (terms_left c.args.skipped.now) c.in-Var.field-0 (trees_left c.args.rest.now)
    (map tree_of c.in-Then.more.now ++ trees_left c.in-Then.below.now) (trees_left c.of-after.result) (tree_of c.in-Then.first.now)
    c.args.node.now.0 c.args.node.now.1 (ap terms_left c.in_default.is) (ap trees_left c.in-Then.is) c.of-after.ensures
    (ap tree_of c.in-Var.is) c.if-varying.true)))
    c.collect_children-then-varying.ensures.found

pub collect-returns-else-varying-clause-found : goal.collect-returns-else-varying-clause-found
collect-returns-else-varying-clause-found g t c =
    if_ok-map c.collect_star.result
    (λ e. e ∙ ap (λ ns. c.args.found.now.items ++ ns)
    (sym (star-step c.args.varying.entry c.args.varying.query (terms_left c.args.skipped.now) c.in-Var.field-0 (trees_left c.args.rest.now)
    (map tree_of c.in-Then.more.now ++ trees_left c.in-Then.below.now) (trees_left c.of-after.result) (tree_of c.in-Then.first.now)
    c.args.node.now.0 c.args.node.now.1 (ap terms_left c.in_default.is) (ap trees_left c.in-Then.is) c.of-after.ensures
    (ap tree_of c.in-Var.is) c.if-varying.false c.collect_star.ensures.order)))
    c.collect_star.ensures.found

pub collect-returns-in_ok-collect_child-in-App-clause-found : goal.collect-returns-in_ok-collect_child-in-App-clause-found
collect-returns-in_ok-collect_child-in-App-clause-found g t c =
    let star : List ℕ =
    if c.args.varying.entry
    then found_in c.args.varying.entry c.args.varying.query 0 (trees_left c.of-after.result) (rows_at Star c.args.node.now.1)
    else [] in
    let symbol : List ℕ =
    found_in c.args.varying.entry c.args.varying.query 0 (trees_left c.of-next.result) (rows_at c.of.result c.args.node.now.1) in
    c.in_ok-collect_child-in-App.ensures.found ∙ ap (λ ns. ns ++ symbol) c.in_ok-collect_star-in-App.ensures.found
    ∙ append_assoc c.args.found.now.items star symbol
    ∙ ap (λ ns. c.args.found.now.items ++ ns)
    (sym (application-step c.args.varying.entry c.args.varying.query (terms_left c.args.skipped.now) c.in-App.field-0
    (trees_left c.args.rest.now) (map tree_of c.in-Then.more.now ++ trees_left c.in-Then.below.now) (trees_left c.of-after.result)
    (trees_left c.of-next.result) c.in-App.arguments (tree_of c.in-Then.first.now) c.of.result c.args.node.now.0 c.args.node.now.1
    (ap terms_left c.in_default.is) (ap trees_left c.in-Then.is) c.of-after.ensures (ap tree_of c.in-App.is)
    (c.of-next.ensures ∙ ap (λ ts. ts ++ trees_left c.of-after.result) c.as_slice.ensures) c.of.ensures
    c.in_ok-collect_child-in-App.ensures.order))

pub collect-returns-in_err-collect_star-in-App-clause-steps : goal.collect-returns-in_err-collect_star-in-App-clause-steps
collect-returns-in_err-collect_star-in-App-clause-steps g t c none ground =
    stays-star c.in-App.field-0 c.in-App.arguments (trees_left c.args.rest.now) (trees_left c.of-after.result) c.args.node.now.0
    c.args.node.now.1 c.args.steps.now c.collect_star-in-App.new.steps
    (application-is c.in-App.field-0 c.in-App.arguments (trees_left c.args.rest.now)
    (map tree_of c.in-Then.more.now ++ trees_left c.in-Then.below.now) (trees_left c.of-after.result) (tree_of c.in-Then.first.now)
    (ap trees_left c.in-Then.is) c.of-after.ensures (ap tree_of c.in-App.is))
    c.in_err-collect_star-in-App.ensures.steps ground

pub collect-returns-in_err-collect_child-in-App-clause-steps : goal.collect-returns-in_err-collect_child-in-App-clause-steps
collect-returns-in_err-collect_child-in-App-clause-steps g t c none ground =
    stays-application c.in-App.field-0 c.in-App.arguments (trees_left c.args.rest.now) (trees_left c.of-after.result)
    (trees_left c.of-next.result) c.of.result c.args.node.now.0 c.args.node.now.1 c.args.steps.now c.collect_star-in-App.new.steps
    c.collect_child.new.steps
    (application-is c.in-App.field-0 c.in-App.arguments (trees_left c.args.rest.now)
    (map tree_of c.in-Then.more.now ++ trees_left c.in-Then.below.now) (trees_left c.of-after.result) (tree_of c.in-Then.first.now)
    (ap trees_left c.in-Then.is) c.of-after.ensures (ap tree_of c.in-App.is))
    (c.of-next.ensures ∙ ap (λ ts. ts ++ trees_left c.of-after.result) c.as_slice.ensures)
    (c.of.ensures ∙ ap (λ x. head (tree_of x)) c.in-App.is) c.in_ok-collect_star-in-App.ensures.steps
    c.in_err-collect_child-in-App.ensures.steps ground

pub collect-returns-in_ok-collect_child-in-App-clause-steps : goal.collect-returns-in_ok-collect_child-in-App-clause-steps
collect-returns-in_ok-collect_child-in-App-clause-steps g t c none ground =
    stays-application c.in-App.field-0 c.in-App.arguments (trees_left c.args.rest.now) (trees_left c.of-after.result)
    (trees_left c.of-next.result) c.of.result c.args.node.now.0 c.args.node.now.1 c.args.steps.now c.collect_star-in-App.new.steps
    c.collect_child.new.steps
    (application-is c.in-App.field-0 c.in-App.arguments (trees_left c.args.rest.now)
    (map tree_of c.in-Then.more.now ++ trees_left c.in-Then.below.now) (trees_left c.of-after.result) (tree_of c.in-Then.first.now)
    (ap trees_left c.in-Then.is) c.of-after.ensures (ap tree_of c.in-App.is))
    (c.of-next.ensures ∙ ap (λ ts. ts ++ trees_left c.of-after.result) c.as_slice.ensures)
    (c.of.ensures ∙ ap (λ x. head (tree_of x)) c.in-App.is) c.in_ok-collect_star-in-App.ensures.steps
    c.in_ok-collect_child-in-App.ensures.steps ground

pub collect-returns-in_default-rest-clause-visits : goal.collect-returns-in_default-rest-clause-visits
collect-returns-in_default-rest-clause-visits g t c =
    if_ok-map c.push_numbers.result
    (λ e entry none ground.
    visits-end (trees_left c.args.rest.now) (rows c.args.node.now) c.args.steps.now c.entries.new.steps
    (ap trees_left c.in_default-rest.is) c.entries.ensures.step)
    c.push_numbers.ensures.found

pub collect-returns-in_ok-collect_child-in-App-clause-visits : goal.collect-returns-in_ok-collect_child-in-App-clause-visits
collect-returns-in_ok-collect_child-in-App-clause-visits g t c entry none ground =
    visits-application c.in-App.field-0 c.in-App.arguments (trees_left c.args.rest.now) (trees_left c.of-after.result)
    (trees_left c.of-next.result) c.of.result c.args.node.now.0 c.args.node.now.1 c.args.steps.now c.collect_star-in-App.new.steps
    c.collect_child.new.steps
    (application-is c.in-App.field-0 c.in-App.arguments (trees_left c.args.rest.now)
    (map tree_of c.in-Then.more.now ++ trees_left c.in-Then.below.now) (trees_left c.of-after.result) (tree_of c.in-Then.first.now)
    (ap trees_left c.in-Then.is) c.of-after.ensures (ap tree_of c.in-App.is))
    (c.of-next.ensures ∙ ap (λ ts. ts ++ trees_left c.of-after.result) c.as_slice.ensures)
    (c.of.ensures ∙ ap (λ x. head (tree_of x)) c.in-App.is) c.in_ok-collect_child-in-App.ensures.order
    (c.in_ok-collect_star-in-App.ensures.visits entry) (c.in_ok-collect_child-in-App.ensures.visits entry) ground

pub collect_child-returns-in-Some-clause-visits : goal.collect_child-returns-in-Some-clause-visits
collect_child-returns-in-Some-clause-visits g t c =
    if_ok-map c.collect_below.result
    (λ visits entry ground.
    follows-each (trees_left c.args.rest.now) (rows_at c.args.label c.args.node.now.1) (rows_below c.in-Some.child.now) c.args.steps.now
    c.child.new.steps c.collect_below.new.steps c.in-Some.ensures.child c.in-Some.ensures.step (visits entry refl ground))
    c.collect_below.ensures.visits

pub collect_child-returns-in-None-clause-visits : goal.collect_child-returns-in-None-clause-visits
collect_child-returns-in-None-clause-visits g t c entry ground =
    follows-none (trees_left c.args.rest.now) (rows_at c.args.label c.args.node.now.1) c.args.steps.now c.child.new.steps
    c.in-None.ensures.child c.in-None.ensures.step

pub collect_child-returns-in-Some-clause-steps : goal.collect_child-returns-in-Some-clause-steps
collect_child-returns-in-Some-clause-steps g t c ground =
    follows-child (trees_left c.args.rest.now) (rows_at c.args.label c.args.node.now.1) (rows_below c.in-Some.child.now) c.args.steps.now
    c.child.new.steps c.collect_below.new.steps c.in-Some.ensures.some c.in-Some.ensures.child c.in-Some.ensures.step
    (c.collect_below.ensures.steps refl ground)

pub collect_child-collect_below-requires : goal.collect_child-collect_below-requires
collect_child-collect_below-requires g t c =
    let smaller : 4 * weight (rows_below c.in-Some.child.now) + 3 < 4 * weight (rows c.args.node.now) =
    omega (arith, c.in-Some.ensures.smaller) in
    search rules

pub collect_children-loop-index-preserved : goal.collect_children-loop-index-preserved
collect_children-loop-index-preserved g t c =
    let e : Bool = c.args.varying.entry in
    let q : Bool = c.args.varying.query in
    let k : ℕ = terms_left c.args.skipped.now in
    let ts : List Tree = trees_left c.args.rest.now in
    let before : List ℕ = found_in e q (suc k) ts (all_below (take c.loop-index.index c.args.node.now.1)) in
    let inner : terms_left c.of-inner.result ≡ arity c.child_at-label.result.0 + k =
    c.of-inner.ensures ∙ ap (λ n. n + k) c.arity.ensures in (
      c.in_ok-collect_below.ensures.found
          ∙ ap (λ n. c.loop-index.found.items ++ found_in e q n ts (rows_below c.child_at-label.result.1.now)) inner
          ∙ ap (λ ns. ns ++ found_in e q (arity c.child_at-label.result.0 + k) ts (rows_below c.child_at-label.result.1.now)) c.loop-index.invariant.0
          ∙ append_assoc c.args.found.now.items before (found_in e q (arity c.child_at-label.result.0 + k) ts (rows_below c.child_at-label.result.1.now))
          ∙ ap (λ ns. c.args.found.now.items ++ ns)
          (sym (children-more e q k ts c.args.node.now.1 c.loop-index.index c.child_at-label.result.0 (rows_below c.child_at-label.result.1.now)
          (omega (arith, c.loop-index-test.true, c.width-index-end.ensures)) c.child_at-label.ensures.child)),
      omega (arith, c.loop-index.invariant.1, c.child_at-label.ensures.step, c.in_ok-collect_below.ensures.counter),
      begins-trans c.args.found.now.items c.loop-index.found.items c.collect_below.new.found.items c.loop-index.invariant.2 c.in_ok-collect_below.ensures.kept,
    )

pub collect_children-returns-clause-found : goal.collect_children-returns-clause-found
collect_children-returns-clause-found g t c =
    let e : Bool = c.args.varying.entry in
    let q : Bool = c.args.varying.query in
    let k : ℕ = terms_left c.args.skipped.now in
    let ts : List Tree = trees_left c.args.rest.now in
    c.loop-index.invariant.0
    ∙ ap (λ ns. c.args.found.now.items ++ ns)
    (ap (λ cs. found_in e q (suc k) ts (all_below cs))
    (take_all c.loop-index.index c.args.node.now.1 (omega (arith, c.loop-index-test.false, c.width-index-end.ensures)))
    ∙ sym (found-passing e q k ts c.args.node.now.0 c.args.node.now.1))

pub collect_below-returns-in_ok-push_numbers-in-Single-clause-found : goal.collect_below-returns-in_ok-push_numbers-in-Single-clause-found
collect_below-returns-in_ok-push_numbers-in-Single-clause-found g t c =
    let e : Bool = c.args.varying.entry in
    let q : Bool = c.args.varying.query in
    let k : ℕ = terms_left c.args.skipped.now in
    let ts : List Tree = trees_left c.args.rest.now in
    let labels : List Label = c.in-Single.tail.labels.items in
    let is : rows_below c.args.below.now ≡ all_at labels c.in-Single.tail.entries = ap rows_below c.in-Single.is in
    let fit : fits e q k ts labels ≡ true =
    sym (c.fits.ensures.fits ∙ ap (fits e q k ts) c.labels.ensures) ∙ c.if-fits.true in
    c.in_ok-push_numbers-in-Single.ensures.found
    ∙ ap (λ ns. c.args.found.now.items ++ ns)
    (ap numbers_of c.entries.ensures.entries ∙ sym (all-found e q k ts labels c.in-Single.tail.entries fit) ∙ ap (found_in e q k ts) (sym is))

pub collect_below-returns-else-fits-clause-found : goal.collect_below-returns-else-fits-clause-found
collect_below-returns-else-fits-clause-found g t c =
    let e : Bool = c.args.varying.entry in
    let q : Bool = c.args.varying.query in
    let k : ℕ = terms_left c.args.skipped.now in
    let ts : List Tree = trees_left c.args.rest.now in
    let labels : List Label = c.in-Single.tail.labels.items in
    let is : rows_below c.args.below.now ≡ all_at labels c.in-Single.tail.entries = ap rows_below c.in-Single.is in
    let fit : fits e q k ts labels ≡ false =
    sym (c.fits.ensures.fits ∙ ap (fits e q k ts) c.labels.ensures) ∙ c.if-fits.false in
    sym (append-nil c.args.found.now.items)
    ∙ ap (λ ns. c.args.found.now.items ++ ns)
    (sym (none-found e q k ts labels c.in-Single.tail.entries fit) ∙ ap (found_in e q k ts) (sym is))

pub collect_below-returns-in_err-push_numbers-in-Single-clause-steps : goal.collect_below-returns-in_err-push_numbers-in-Single-clause-steps
collect_below-returns-in_err-push_numbers-in-Single-clause-steps g t c none ground =
    stays-below c.args.below.now c.in-Single.tail (labels_left c.labels.result) (trees_left c.args.rest.now) c.args.steps.now c.entries.new.steps
    c.in-Single.is c.labels.ensures c.requires (omega (arith, c.entries.ensures.step, c.fits.ensures.steps none ground))

pub collect_below-returns-in_ok-push_numbers-in-Single-clause-steps : goal.collect_below-returns-in_ok-push_numbers-in-Single-clause-steps
collect_below-returns-in_ok-push_numbers-in-Single-clause-steps g t c none ground =
    stays-below c.args.below.now c.in-Single.tail (labels_left c.labels.result) (trees_left c.args.rest.now) c.args.steps.now c.entries.new.steps
    c.in-Single.is c.labels.ensures c.requires (omega (arith, c.entries.ensures.step, c.fits.ensures.steps none ground))

pub collect_below-returns-else-fits-clause-steps : goal.collect_below-returns-else-fits-clause-steps
collect_below-returns-else-fits-clause-steps g t c none ground =
    stays-below c.args.below.now c.in-Single.tail (labels_left c.labels.result) (trees_left c.args.rest.now) c.args.steps.now c.fits.new.steps
    c.in-Single.is c.labels.ensures c.requires (omega (arith, c.fits.ensures.steps none ground))

pub collect_below-returns-in_ok-push_numbers-in-Single-clause-visits : goal.collect_below-returns-in_ok-push_numbers-in-Single-clause-visits
collect_below-returns-in_ok-push_numbers-in-Single-clause-visits g t c entry none ground =
    visits-below c.args.below.now c.in-Single.tail (labels_left c.labels.result) (trees_left c.args.rest.now) c.args.steps.now c.entries.new.steps
    c.in-Single.is c.labels.ensures (omega (arith, c.entries.ensures.step, c.fits.ensures.visits entry none ground))

pub collect_below-returns-else-fits-clause-visits : goal.collect_below-returns-else-fits-clause-visits
collect_below-returns-else-fits-clause-visits g t c entry none ground =
    visits-below c.args.below.now c.in-Single.tail (labels_left c.labels.result) (trees_left c.args.rest.now) c.args.steps.now c.fits.new.steps
    c.in-Single.is c.labels.ensures (c.fits.ensures.visits entry none ground)

pub collect_below-returns-in-Branching-clause-visits : goal.collect_below-returns-in-Branching-clause-visits
collect_below-returns-in-Branching-clause-visits g t c =
    if_ok-map c.collect.result
    (λ visits entry none ground.
    subst (λ (d : Below). VisitsEach (trees_left c.args.rest.now) (rows_below d) c.args.steps.now c.collect.new.steps)
    (sym c.in-Branching.is) (visits entry none ground))
    c.collect.ensures.visits
