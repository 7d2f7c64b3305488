use Rattle.std.proofs.Common.{◌≡◌, ◌∷◌, [], ℕ, List, suc, take, drop, refl, ap, sym, subst, ◌∙◌, Some, None, Ok, inl, inr, rules}
use Rattle.fol_base.specs.Tree.{Tree}
use Rattle.fol_base.proofs.ListLemmas.{take_more_item}
use Rattle.disc_tree.specs.declared.stars.Generalisation.{Generalisation}
use Rattle.disc_tree.specs.Firsts.{IsFirst}
use Rattle.disc_tree.specs.Generalisations.{answers_of, terms_of}
use Rattle.disc_tree.specs.Reading.{matches_of}
use Rattle.disc_tree.proofs.AboutChanges.RemoveLemmas.{parts-at}
use Rattle.disc_tree.proofs.AboutQueries.FirstLemmas.{first-more}
use Rattle.disc_tree.proofs.AboutQueries.ReadLemmas.{matches-of-append}
use Rattle.disc_tree.proofs.first.first_of.Goals as goal

pub loop-entry-preserved : goal.loop-entry-preserved
loop-entry-preserved g c =
    let xs : List (Tree × ℕ) = c.args.entries.now in
    let x : Tree × ℕ = c.entry-item.result in
    let stars : List Tree = terms_of c.args.stars.now in
    let before : List (Tree × ℕ) = take c.loop-entry.entry-index xs in
    let given : Generalisation = record { number = c.number.result; variables = c.variables.result; stars = c.args.stars } in
    let none : c.in_ok-found.field-0 ≡ None = search rules in
    subst (λ ms. IsFirst (answers_of (goal.F-post g c.args.test.now)) ms None)
    (sym (matches-of-append stars before (x ∷ []))
    ∙ ap (matches_of stars) (sym (take_more_item xs c.loop-entry.entry-index x c.loop-entry-test.true c.entry-item.is)))
    (first-more (answers_of (goal.F-post g c.args.test.now)) (matches_of stars before) ((x, stars) ∷ []) None c.loop-entry.invariant
    (inl (
      (given, record { number = c.number.ensures; variables = c.variables.ensures; stars = refl }, subst (λ o. goal.F-post g c.args.test.now given (Ok o)) none c.in_ok-found.ensures),
      refl,
    )))

pub returns-in-Some : goal.returns-in-Some
returns-in-Some g c =
    let xs : List (Tree × ℕ) = c.args.entries.now in
    let x : Tree × ℕ = c.entry-item.result in
    let stars : List Tree = terms_of c.args.stars.now in
    let given : Generalisation = record { number = c.number.result; variables = c.variables.result; stars = c.args.stars } in
    let before : List (Tree × ℕ) = take c.loop-entry.entry-index xs in
    let behind : List (Tree × ℕ) = drop (suc c.loop-entry.entry-index) xs in
    subst (λ es. IsFirst (answers_of (goal.F-post g c.args.test.now)) (matches_of stars es) (Some c.in-Some.found))
    (sym (parts-at x xs c.loop-entry.entry-index c.loop-entry-test.true c.entry-item.is))
    (subst (λ ms. IsFirst (answers_of (goal.F-post g c.args.test.now)) ms (Some c.in-Some.found)) (sym (matches-of-append stars before (x ∷ behind)))
    (first-more (answers_of (goal.F-post g c.args.test.now)) (matches_of stars before) ((x, stars) ∷ matches_of stars behind) (Some c.in-Some.found)
    c.loop-entry.invariant
    (inr (
      (given, record { number = c.number.ensures; variables = c.variables.ensures; stars = refl }, subst (λ o. goal.F-post g c.args.test.now given (Ok o)) c.in-Some.is c.in_ok-found.ensures),
      refl,
    ))))
