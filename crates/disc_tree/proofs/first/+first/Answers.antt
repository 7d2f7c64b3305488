use Rattle.std.proofs.Common.{◌≡◌, ◌++◌, ◌∷◌, [], List, map, refl, ap, sym, subst, ◌∙◌, Some, None, rules}
use Rattle.fol_base.specs.Tree.{Tree}
use Rattle.fol_base.specs.Term.{tree_of}
use Rattle.disc_tree.specs.declared.label.Label.{Label}
use Rattle.disc_tree.specs.declared.label.Label.TheVariants.{Star}
use Rattle.disc_tree.specs.Firsts.{IsFirst}
use Rattle.disc_tree.specs.Generalisations.{Match, answers_of, terms_of}
use Rattle.disc_tree.specs.Path.{head}
use Rattle.disc_tree.specs.Reading.{matches_in, matches_of}
use Rattle.disc_tree.specs.Rows.{rows, rows_at}
use Rattle.disc_tree.specs.Work.{trees_left}
use Rattle.disc_tree.proofs.AboutQueries.FirstLemmas.{first-same, first-stop, first-after}
use Rattle.disc_tree.proofs.AboutQueries.ReadLemmas.{matches-at-end, matches-variable, matches-application}
use Rattle.disc_tree.specs.contracts.first.first_in.F-Fn as in_words
use Rattle.disc_tree.proofs.first.+first.Goals as goal

pub first_in-returns-in_default : goal.first_in-returns-in_default
first_in-returns-in_default g t c =
    let before : List Tree = terms_of c.args.stars.now in
    let nothing : trees_left c.args.rest.now ≡ [] = search rules in
    first-same (answers_of ((in_words.words g.row.T g.row.F g.row.L g.F.Fn).post c.args.test.now)) (matches_of before c.entries.result.now) (matches_in before (trees_left c.args.rest.now) (rows c.args.node.now))
    c.first_of.result
    (ap (matches_of before) c.entries.ensures.entries
    ∙ sym (matches-at-end before (trees_left c.args.rest.now) c.args.node.now.0 c.args.node.now.1 nothing))
    c.first_of.ensures

pub first_in-returns-in-Var : goal.first_in-returns-in-Var
first_in-returns-in-Var g t c =
    let before : List Tree = terms_of c.args.stars.now in
    let term : Tree = tree_of c.in-Then.first.now in
    first-same (answers_of ((in_words.words g.row.T g.row.F g.row.L g.F.Fn).post c.args.test.now)) (matches_in (before ++ term ∷ []) (trees_left c.of-after.result) (rows_at Star c.args.node.now.1))
    (matches_in before (trees_left c.args.rest.now) (rows c.args.node.now)) c.first_child.result
    (sym (matches-variable c.in-Var.field-0 before (trees_left c.args.rest.now)
    (map tree_of c.in-Then.more.now ++ trees_left c.in-Then.below.now) (trees_left c.of-after.result) term
    c.args.node.now.0 c.args.node.now.1 (ap trees_left c.in-Then.is) c.of-after.ensures (ap tree_of c.in-Var.is)
    c.first_child.ensures.order))
    c.first_child.ensures.first

pub first_in-returns-in-Some : goal.first_in-returns-in-Some
first_in-returns-in-Some g t c =
    let before : List Tree = terms_of c.args.stars.now in
    let us : List Tree = c.in-App.arguments in
    let after : List Tree = trees_left c.of-after.result in
    let term : Tree = tree_of c.in-Then.first.now in
    let l : Label = head term in
    let star : List Match = matches_in (before ++ term ∷ []) after (rows_at Star c.args.node.now.1) in
    subst (λ ms. IsFirst (answers_of ((in_words.words g.row.T g.row.F g.row.L g.F.Fn).post c.args.test.now)) ms (Some c.in-Some.found))
    (sym (matches-application c.in-App.field-0 before (trees_left c.args.rest.now)
    (map tree_of c.in-Then.more.now ++ trees_left c.in-Then.below.now) after (us ++ after) us term l
    c.args.node.now.0 c.args.node.now.1 (ap trees_left c.in-Then.is) c.of-after.ensures (ap tree_of c.in-App.is) refl refl
    c.first_child-in-App.ensures.order))
    (first-stop (answers_of ((in_words.words g.row.T g.row.F g.row.L g.F.Fn).post c.args.test.now)) star (matches_in before (us ++ after) (rows_at l c.args.node.now.1)) c.in-Some.found
    (subst (λ o. IsFirst (answers_of ((in_words.words g.row.T g.row.F g.row.L g.F.Fn).post c.args.test.now)) star o) c.in-Some.is c.in_ok-found-in-App.ensures.first))

pub first_in-returns-in_default-2 : goal.first_in-returns-in_default-2
first_in-returns-in_default-2 g t c =
    let before : List Tree = terms_of c.args.stars.now in
    let us : List Tree = c.in-App.arguments in
    let after : List Tree = trees_left c.of-after.result in
    let next : List Tree = trees_left c.of-next.result in
    let term : Tree = tree_of c.in-Then.first.now in
    let star : List Match = matches_in (before ++ term ∷ []) after (rows_at Star c.args.node.now.1) in
    let symbol : List Match = matches_in before next (rows_at c.of.result c.args.node.now.1) in
    let none : c.in_ok-found-in-App.field-0 ≡ None = search rules in
    first-same (answers_of ((in_words.words g.row.T g.row.F g.row.L g.F.Fn).post c.args.test.now)) (star ++ symbol) (matches_in before (trees_left c.args.rest.now) (rows c.args.node.now)) c.first_child-in-App-2.result
    (sym (matches-application c.in-App.field-0 before (trees_left c.args.rest.now)
    (map tree_of c.in-Then.more.now ++ trees_left c.in-Then.below.now) after next us term c.of.result
    c.args.node.now.0 c.args.node.now.1 (ap trees_left c.in-Then.is) c.of-after.ensures (ap tree_of c.in-App.is)
    (c.of-next.ensures ∙ ap (λ ts. ts ++ after) c.as_slice.ensures) c.of.ensures c.first_child-in-App.ensures.order))
    (first-after (answers_of ((in_words.words g.row.T g.row.F g.row.L g.F.Fn).post c.args.test.now)) star symbol c.first_child-in-App-2.result
    (subst (λ o. IsFirst (answers_of ((in_words.words g.row.T g.row.F g.row.L g.F.Fn).post c.args.test.now)) star o) none c.in_ok-found-in-App.ensures.first) c.first_child-in-App-2.ensures.first)
