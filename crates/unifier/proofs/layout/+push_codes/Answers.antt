use Rattle.std.proofs.Common.{◌≡◌, refl, List, ℕ, ◌++◌, map, take, append_assoc, arith, ap, sym, ◌∙◌}
use Rattle.std.proofs.lemmas.List.{map-append}
use Rattle.fol_base.specs.Tree.{trees_of, tree_variables, trees_variables}
use Rattle.fol_base.specs.Term.{tree_of}
use Rattle.fol_base.proofs.AboutTerms.TermLemmas.{tree_size-item}
use Rattle.fol_base.proofs.AboutTerms.VariableLemmas.{trees_variables-take_more}
use Rattle.unifier.specs.SolvedForm.{code_of}
use Rattle.unifier.proofs.layout.+push_codes.Goals as goal

pub push_all_codes-push_codes-requires : goal.push_all_codes-push_codes-requires
push_all_codes-push_codes-requires t c =
    (omega (arith, tree_size-item _ _ _ _ (let e : map tree_of c.args.terms.now ≡ map tree_of c.args.terms.now = refl in e) c.loop-term-test.true c.term-item.is, c.decreases), tt)

pub push_all_codes-loop-term-preserved : goal.push_all_codes-loop-term-preserved
push_all_codes-loop-term-preserved t c =
    let code = code_of c.args.apart c.args.side in
    let before : List ℕ = trees_variables (trees_of (map tree_of (take c.loop-term.term-index c.args.terms.now))) in
    let here : List ℕ = tree_variables (tree_of c.term-item.result) in
    c.in_ok-push_codes.ensures
    ∙ ap (λ vs. vs ++ map code here) c.loop-term.invariant
    ∙ append_assoc c.args.codes.now.items (map code before) (map code here)
    ∙ ap (λ vs. c.args.codes.now.items ++ vs)
    (sym (map-append code before here) ∙ ap (map code) (sym (trees_variables-take_more _ _ _ c.loop-term-test.true c.term-item.is)))
