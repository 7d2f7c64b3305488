use Rattle.std.proofs.Common.{arith, ap, sym, ◌∙◌}
use Rattle.std.specs.Prelude.{flat_map}
use Rattle.std.proofs.lemmas.List.{take_all}
use Rattle.fol_base.specs.Tree.{trees_of, trees_variables}
use Rattle.fol_base.specs.Numbering.{count_after}
use Rattle.fol_base.proofs.AboutTerms.TermLemmas.{tree_size-item}
use Rattle.fol_base.proofs.AboutCanonical.WalkLemmas.{term_parts, terms_variables, count_more, count_stops}
use Rattle.fol_base.proofs.canonical_form.+count.Goals as goal

pub count_in_terms-count_in_term-requires : goal.count_in_terms-count_in_term-requires
count_in_terms-count_in_term-requires t c = (
  omega (arith, tree_size-item _ _ _ _ c.as_slice-term-items.ensures c.loop-term-test.true c.term-item.is, c.decreases),
  c.loop-term.invariant.limit,
)

pub count_in_terms-returns-in_err-counted-clause-value :
    goal.count_in_terms-returns-in_err-counted-clause-value
count_in_terms-returns-in_err-counted-clause-value t c =
    c.from_residual.ensures
    ∙ sym (count_stops term_parts c.as_slice-term-items.result.now c.loop-term.term-index c.term-item.result c.loop-term-test.true
    c.term-item.is c.args.count c.loop-term.counted c.loop-term.invariant.counted (sym c.in_err-counted.ensures.value))
    ∙ ap (count_after c.args.count)
    (terms_variables c.as_slice-term-items.result.now ∙ ap (λ ts. trees_variables (trees_of ts)) c.as_slice-term-items.ensures)

pub count_in_terms-loop-term-preserved : goal.count_in_terms-loop-term-preserved
count_in_terms-loop-term-preserved t c =
    record {
      counted =
          count_more term_parts c.as_slice-term-items.result.now c.loop-term.term-index c.term-item.result c.loop-term-test.true
          c.term-item.is c.args.count c.loop-term.counted c.loop-term.invariant.counted
          ∙ sym c.in_ok-counted.ensures.value;
      limit = c.in_ok-counted.ensures.limit;
    }

pub count_in_terms-returns-clause-value : goal.count_in_terms-returns-clause-value
count_in_terms-returns-clause-value t c =
    let read = c.as_slice-term-items.result.now in
    sym c.loop-term.invariant.counted
    ∙ ap (λ xs. count_after c.args.count (flat_map term_parts xs)) (take_all c.loop-term.term-index read (omega arith))
    ∙ ap (count_after c.args.count)
    (terms_variables read ∙ ap (λ ts. trees_variables (trees_of ts)) c.as_slice-term-items.ensures)
