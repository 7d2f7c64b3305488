use Rattle.std.proofs.Common.{◌∷◌, [], map, take, arith, ap, sym, subst, ◌∙◌}
use Rattle.std.specs.Prelude.{flat_map}
use Rattle.std.proofs.lemmas.List.{map-append, take_all}
use Rattle.fol_base.specs.Tree.{application, tree_variables, trees_of, trees_variables}
use Rattle.fol_base.specs.Instance.{instance}
use Rattle.fol_base.specs.Canonical.{renaming}
use Rattle.fol_base.specs.Numbering.{with_variables}
use Rattle.fol_base.specs.Term.{tree_of}
use Rattle.fol_base.proofs.AboutTerms.TermLemmas.{tree_size-item}
use Rattle.fol_base.proofs.AboutTerms.TreeLemmas.{instances-trees_of}
use Rattle.fol_base.proofs.AboutCanonical.WalkLemmas.{term_parts, term_instance, terms_variables, terms_instances, term-agree, met_more, made_more}
use Rattle.list_lemmas.proofs.Results.{on-err}
use Rattle.eq_rules.specs.Renumbered.{KeepsNumbers}
use Rattle.eq_rules.proofs.AboutConclusions.KeptLemmas.{keeps-after, keeps-met}
use Rattle.eq_rules.proofs.renaming.+renamed.Goals as goal

pub renamed_term-returns-in_ok-renamed_terms-in-App-clause-form :
    goal.renamed_term-returns-in_ok-renamed_terms-in-App-clause-form
renamed_term-returns-in_ok-renamed_terms-in-App-clause-form t c =
    ap (λ us. application c.in-App.symbol (trees_of us)) c.in_ok-renamed_terms-in-App.ensures.form
    ∙ ap (application c.in-App.symbol) (sym (instances-trees_of (renaming c.renamed_terms.new.numbers) c.in-App.arguments))
    ∙ ap (λ u. instance (renaming c.renamed_terms.new.numbers) (tree_of u)) (sym c.in-App.is)

pub renamed_terms-renamed_term-requires : goal.renamed_terms-renamed_term-requires
renamed_terms-renamed_term-requires t c =
    (omega (arith, tree_size-item _ _ _ _ c.as_slice-term-items.ensures c.loop-term-test.true c.term-item.is, c.decreases), tt)

pub renamed_terms-loop-term-preserved : goal.renamed_terms-loop-term-preserved
renamed_terms-loop-term-preserved t c =
    let read = c.as_slice-term-items.result.now in
    record {
      met =
          met_more term_parts read c.loop-term.term-index c.term-item.result c.loop-term-test.true c.term-item.is
          c.args.numbers.now c.loop-term.numbers c.renamed_term.new.numbers
          c.loop-term.invariant.met c.in_ok-renamed_term.ensures.met;
      form =
          ap (map tree_of) c.in_ok-push.ensures.items
          ∙ map-append tree_of c.loop-term.items.items (c.in_ok-renamed_term.field-0 ∷ [])
          ∙ made_more term_parts read c.loop-term.term-index c.term-item.result c.loop-term-test.true c.term-item.is
          term_instance term-agree c.args.numbers.now c.loop-term.numbers c.renamed_term.new.numbers
          (map tree_of c.loop-term.items.items) (tree_of c.in_ok-renamed_term.field-0)
          c.loop-term.invariant.met c.in_ok-renamed_term.ensures.met c.loop-term.invariant.form c.in_ok-renamed_term.ensures.form;
    }

pub renamed_terms-returns-clause-met : goal.renamed_terms-returns-clause-met
renamed_terms-returns-clause-met t c =
    let read = c.as_slice-term-items.result.now in
    c.loop-term.invariant.met
    ∙ ap (λ xs. with_variables c.args.numbers.now (flat_map term_parts xs)) (take_all c.loop-term.term-index read (omega arith))
    ∙ ap (with_variables c.args.numbers.now)
    (terms_variables read ∙ ap (λ ts. trees_variables (trees_of ts)) c.as_slice-term-items.ensures)

pub renamed_terms-returns-clause-form : goal.renamed_terms-returns-clause-form
renamed_terms-returns-clause-form t c =
    let read = c.as_slice-term-items.result.now in
    c.from_vec.ensures
    ∙ c.loop-term.invariant.form
    ∙ ap (map (term_instance (renaming c.loop-term.numbers))) (take_all c.loop-term.term-index read (omega arith))
    ∙ terms_instances (renaming c.loop-term.numbers) read
    ∙ ap (map (instance (renaming c.loop-term.numbers))) c.as_slice-term-items.ensures

pub renamed_terms-returns-in_err-renamed_term-clause-kept : goal.renamed_terms-returns-in_err-renamed_term-clause-kept
renamed_terms-returns-in_err-renamed_term-clause-kept t c =
    on-err c.from_residual-in_err-renamed_term.result
    (keeps-after c.args.numbers.now (flat_map term_parts (take c.loop-term.term-index c.as_slice-term-items.result.now)) c.loop-term.numbers
    c.renamed_term.new.numbers c.loop-term.invariant.met c.in_err-renamed_term.ensures.kept)

pub renamed_terms-returns-in_err-push-clause-kept : goal.renamed_terms-returns-in_err-push-clause-kept
renamed_terms-returns-in_err-push-clause-kept t c =
    on-err c.from_residual-in_err-push.result
    (keeps-after c.args.numbers.now (flat_map term_parts (take c.loop-term.term-index c.as_slice-term-items.result.now)) c.loop-term.numbers
    c.renamed_term.new.numbers c.loop-term.invariant.met
    (subst (KeepsNumbers c.loop-term.numbers) (sym c.in_ok-renamed_term.ensures.met) (keeps-met c.loop-term.numbers (tree_variables (tree_of c.term-item.result)))))
