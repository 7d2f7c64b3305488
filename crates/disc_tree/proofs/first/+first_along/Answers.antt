use Rattle.std.proofs.Common.{◌≡◌, ◌++◌, ◌∷◌, [], List, map, ap, sym, subst, ◌∙◌, None, rules}
use Rattle.fol_base.specs.Tree.{Tree}
use Rattle.fol_base.specs.Term.{tree_of}
use Rattle.disc_tree.specs.declared.label.Label.{Label}
use Rattle.disc_tree.specs.Children.{labels_left}
use Rattle.disc_tree.specs.Firsts.{IsFirst}
use Rattle.disc_tree.specs.Generalisations.{answers_of, terms_of}
use Rattle.disc_tree.specs.Path.{same_label}
use Rattle.disc_tree.specs.Reading.{read_along, matches_in, matches_of}
use Rattle.disc_tree.specs.Rows.{all_at}
use Rattle.disc_tree.specs.Work.{trees_left}
use Rattle.disc_tree.proofs.AboutQueries.FirstLemmas.{first-same, none-first}
use Rattle.disc_tree.proofs.AboutQueries.ReadLemmas.{tail-at-end, tail-read, tail-unread, star-along, symbol-along, symbol-unread}
use Rattle.disc_tree.specs.contracts.first.first_along.F-Fn as words
use Rattle.disc_tree.proofs.first.+first_along.Goals as goal

pub returns-in-Nothing : goal.returns-in-Nothing
returns-in-Nothing g t c =
    let before : List Tree = terms_of c.args.stars.now in
    let labels : List Label = labels_left c.args.labels in
    let none : labels ≡ [] = search rules in
    first-same (answers_of ((words.words g.row.T g.row.F g.row.L g.F.Fn).post c.args.test.now)) (matches_of before c.entries.result.now) (matches_in before (trees_left c.args.rest.now) (all_at labels c.args.tail.now.entries))
    c.first_of.result
    (ap (matches_of before) c.entries.ensures.entries
    ∙ sym (tail-at-end before (trees_left c.args.rest.now) labels c.args.tail.now.entries (ap trees_left c.in-Nothing.is) none))
    c.first_of.ensures

pub returns-in-Then : goal.returns-in-Then
returns-in-Then g t c =
    let before : List Tree = terms_of c.args.stars.now in
    let labels : List Label = labels_left c.args.labels in
    let none : labels ≡ [] = search rules in
    subst (λ ms. IsFirst (answers_of ((words.words g.row.T g.row.F g.row.L g.F.Fn).post c.args.test.now)) ms None)
    (sym (ap (λ p. matches_in before (trees_left c.args.rest.now) (all_at p c.args.tail.now.entries)) none
    ∙ tail-unread before (trees_left c.args.rest.now) [] c.args.tail.now.entries (ap (λ r. read_along before (trees_left r) []) c.in-Then.is)))
    (none-first (answers_of ((words.words g.row.T g.row.F g.row.L g.F.Fn).post c.args.test.now)))

pub returns-in_default-rest : goal.returns-in_default-rest
returns-in_default-rest g t c =
    let before : List Tree = terms_of c.args.stars.now in
    let labels : List Label = labels_left c.args.labels in
    let nothing : trees_left c.args.rest.now ≡ [] = search rules in
    let some : labels ≡ c.in-Some.label ∷ labels_left c.in-Some.others = search rules in
    subst (λ ms. IsFirst (answers_of ((words.words g.row.T g.row.F g.row.L g.F.Fn).post c.args.test.now)) ms None)
    (sym (ap (λ p. matches_in before (trees_left c.args.rest.now) (all_at p c.args.tail.now.entries)) some
    ∙ tail-unread before (trees_left c.args.rest.now) (c.in-Some.label ∷ labels_left c.in-Some.others) c.args.tail.now.entries
    (ap (λ ts. read_along before ts (c.in-Some.label ∷ labels_left c.in-Some.others)) nothing)))
    (none-first (answers_of ((words.words g.row.T g.row.F g.row.L g.F.Fn).post c.args.test.now)))

pub returns-then-not-is_same : goal.returns-then-not-is_same
returns-then-not-is_same g t c =
    let before : List Tree = terms_of c.args.stars.now in
    let labels : List Label = labels_left c.args.labels in
    let some : labels ≡ c.in-Some.label ∷ labels_left c.in-Some.others = search rules in
    subst (λ ms. IsFirst (answers_of ((words.words g.row.T g.row.F g.row.L g.F.Fn).post c.args.test.now)) ms None)
    (sym (tail-unread before (trees_left c.args.rest.now) labels c.args.tail.now.entries
    (symbol-unread c.in-Symbol.field-0 c.in-Symbol.field-1 before (trees_left c.args.rest.now)
    (map tree_of c.in-Then-rest.more.now ++ trees_left c.in-Then-rest.below.now) (tree_of c.in-Then-rest.first.now) c.in-Some.label labels
    (labels_left c.in-Some.others) (ap trees_left c.in-Then-rest.is) some c.in-Symbol.is
    (ap (same_label c.in-Some.label) (sym c.of.ensures) ∙ sym c.is_same.ensures ∙ c.if-not-is_same.true))))
    (none-first (answers_of ((words.words g.row.T g.row.F g.row.L g.F.Fn).post c.args.test.now)))

pub returns-in-Star : goal.returns-in-Star
returns-in-Star g t c =
    let before : List Tree = terms_of c.args.stars.now in
    let term : Tree = tree_of c.in-Then-rest.first.now in
    let labels : List Label = labels_left c.args.labels in
    let some : labels ≡ c.in-Some.label ∷ labels_left c.in-Some.others = search rules in
    first-same (answers_of ((words.words g.row.T g.row.F g.row.L g.F.Fn).post c.args.test.now)) (matches_in (before ++ term ∷ []) (trees_left c.of-after.result) (all_at (labels_left c.in-Some.others) c.args.tail.now.entries))
    (matches_in before (trees_left c.args.rest.now) (all_at labels c.args.tail.now.entries)) c.first_along.result
    (sym (tail-read before (trees_left c.args.rest.now) (before ++ term ∷ []) (trees_left c.of-after.result) labels (labels_left c.in-Some.others)
    c.args.tail.now.entries
    (star-along before (trees_left c.args.rest.now) (map tree_of c.in-Then-rest.more.now ++ trees_left c.in-Then-rest.below.now)
    (trees_left c.of-after.result) term c.in-Some.label labels (labels_left c.in-Some.others) (ap trees_left c.in-Then-rest.is) c.of-after.ensures
    some c.in-Star.is)))
    c.first_along.ensures

pub returns-else-not-is_same : goal.returns-else-not-is_same
returns-else-not-is_same g t c =
    let before : List Tree = terms_of c.args.stars.now in
    let labels : List Label = labels_left c.args.labels in
    let some : labels ≡ c.in-Some.label ∷ labels_left c.in-Some.others = search rules in
    first-same (answers_of ((words.words g.row.T g.row.F g.row.L g.F.Fn).post c.args.test.now)) (matches_in before (trees_left c.of-next.result) (all_at (labels_left c.in-Some.others) c.args.tail.now.entries))
    (matches_in before (trees_left c.args.rest.now) (all_at labels c.args.tail.now.entries)) c.first_along-in-Symbol.result
    (sym (tail-read before (trees_left c.args.rest.now) before (trees_left c.of-next.result) labels (labels_left c.in-Some.others)
    c.args.tail.now.entries
    (symbol-along c.in-Symbol.field-0 c.in-Symbol.field-1 before (trees_left c.args.rest.now)
    (map tree_of c.in-Then-rest.more.now ++ trees_left c.in-Then-rest.below.now) (trees_left c.of-after.result) (trees_left c.of-next.result)
    (map tree_of c.arguments_of.result.now) (tree_of c.in-Then-rest.first.now) c.in-Some.label labels (labels_left c.in-Some.others)
    (ap trees_left c.in-Then-rest.is) c.of-after.ensures c.arguments_of.ensures c.of-next.ensures some c.in-Symbol.is
    (ap (same_label c.in-Some.label) (sym c.of.ensures) ∙ sym c.is_same.ensures ∙ c.if-not-is_same.false))))
    c.first_along-in-Symbol.ensures
