use Rattle.std.proofs.Common.{arith, ap, take, ◌∙◌}
use Rattle.std.specs.Prelude.{flat_map}
use Rattle.std.proofs.lemmas.List.{take_all}
use Rattle.fol_base.specs.Tree.{trees_of, trees_variables}
use Rattle.fol_base.specs.Numbering.{with_variables}
use Rattle.fol_base.proofs.AboutTerms.TermLemmas.{tree_size-item}
use Rattle.fol_base.proofs.AboutCanonical.WalkLemmas.{term_parts, terms_variables, met_more}
use Rattle.list_lemmas.proofs.Results.{on-err}
use Rattle.eq_rules.proofs.AboutConclusions.KeptLemmas.{keeps-after}
use Rattle.eq_rules.proofs.renaming.+number_term.Goals as goal

pub number_terms-number_term-requires : goal.number_terms-number_term-requires
number_terms-number_term-requires t c =
    (omega (arith, tree_size-item _ _ _ _ c.as_slice-term-items.ensures c.loop-term-test.true c.term-item.is, c.decreases), tt)

pub number_terms-loop-term-preserved : goal.number_terms-loop-term-preserved
number_terms-loop-term-preserved t c =
    met_more term_parts c.as_slice-term-items.result.now c.loop-term.term-index c.term-item.result c.loop-term-test.true c.term-item.is
    c.args.numbers.now c.loop-term.numbers c.number_term.new.numbers
    c.loop-term.invariant c.in_ok-number_term.ensures.met

pub number_terms-returns-clause-met : goal.number_terms-returns-clause-met
number_terms-returns-clause-met t c =
    let read = c.as_slice-term-items.result.now in
    c.loop-term.invariant
    ∙ ap (λ xs. with_variables c.args.numbers.now (flat_map term_parts xs)) (take_all c.loop-term.term-index read (omega arith))
    ∙ ap (with_variables c.args.numbers.now)
    (terms_variables read ∙ ap (λ ts. trees_variables (trees_of ts)) c.as_slice-term-items.ensures)

pub number_terms-returns-in_err-number_term-clause-kept : goal.number_terms-returns-in_err-number_term-clause-kept
number_terms-returns-in_err-number_term-clause-kept t c =
    on-err c.from_residual.result
    (keeps-after c.args.numbers.now (flat_map term_parts (take c.loop-term.term-index c.as_slice-term-items.result.now)) c.loop-term.numbers c.number_term.new.numbers c.loop-term.invariant c.in_err-number_term.ensures.kept)
