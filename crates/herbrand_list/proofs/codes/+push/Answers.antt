use Rattle.std.proofs.Common.{arith, rules, ℕ, List, ◌<◌, ◌+◌, ◌*◌, ◌++◌, [], ◌∙◌, append_assoc, ap, sym, refl, map, take}
use Rattle.fol_base.specs.Tree.{tree_size, trees_size, trees_of}
use Rattle.fol_base.specs.TreeCode.{tree_steps, trees_steps}
use Rattle.fol_base.specs.Term.{tree_of}
use Rattle.fol_base.proofs.AboutTerms.TermLemmas.{tree_size-item}
use Rattle.list_lemmas.proofs.Results.{ok-then}
use Rattle.herbrand_list.specs.Worked.{step_numbers}
use Rattle.herbrand_list.proofs.AboutListing.CodeLemmas.{codes-more, application-code}
use Rattle.herbrand_list.proofs.codes.+push.Goals as goal

pub push_term-push_terms-requires : goal.push_term-push_terms-requires
push_term-push_terms-requires t c =
    let smaller : 2 * trees_size (trees_of (map tree_of c.as_slice.result.now)) + 1 < 2 * tree_size (tree_of c.args.term.now) =
    omega (arith, ap (λ ts. trees_size (trees_of ts)) c.as_slice.ensures, ap (λ x. tree_size (tree_of x)) c.in-App.is) in
    search rules

pub push_terms-push_term-requires : goal.push_terms-push_term-requires
push_terms-push_term-requires t c =
    let smaller : 2 * tree_size (tree_of c.term-item.result) < 2 * trees_size (trees_of (map tree_of c.args.terms.now)) + 1 =
    omega (arith, tree_size-item c.args.terms.now (map tree_of c.args.terms.now) _ _ refl c.loop-term-test.true c.term-item.is) in
    search rules

pub push_terms-loop-term-preserved : goal.push_terms-loop-term-preserved
push_terms-loop-term-preserved t c =
    c.in_ok-push_term.ensures
    ∙ ap (λ (ks : List ℕ). ks ++ step_numbers (tree_steps (tree_of c.term-item.result) [])) c.loop-term.invariant
    ∙ append_assoc c.args.key.now.items (step_numbers (trees_steps (trees_of (map tree_of (take c.loop-term.term-index c.args.terms.now))) []))
    (step_numbers (tree_steps (tree_of c.term-item.result) []))
    ∙ ap (λ (ks : List ℕ). c.args.key.now.items ++ ks)
    (sym (codes-more c.args.terms.now c.loop-term.term-index c.term-item.result c.loop-term-test.true c.term-item.is))

pub push_term-returns-in_ok-push_terms-in-App : goal.push_term-returns-in_ok-push_terms-in-App
push_term-returns-in_ok-push_terms-in-App t c =
    ok-then c.push_step-in-App-2.result _ _
    (λ x made.
    application-code c.args.key.now.items c.push_step-in-App.new.key.items c.push_terms.new.key.items c.push_step-in-App-2.new.key.items
    c.in-App.symbol (trees_of c.in-App.arguments) c.in_ok-push_step-in-App.ensures
    (c.in_ok-push_terms-in-App.ensures
    ∙ ap (λ us. c.push_step-in-App.new.key.items ++ step_numbers (trees_steps (trees_of us) [])) c.as_slice.ensures)
    made
    ∙ ap (λ u. c.args.key.now.items ++ step_numbers (tree_steps (tree_of u) [])) (sym c.in-App.is))
    c.push_step-in-App-2.ensures
