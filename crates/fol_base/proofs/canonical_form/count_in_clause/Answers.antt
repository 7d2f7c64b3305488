use Rattle.std.proofs.Common.{map, arith, ap, sym, ◌∙◌}
use Rattle.std.specs.Prelude.{flat_map}
use Rattle.std.proofs.lemmas.List.{take_all}
use Rattle.fol_base.specs.Clause.{literal_variables}
use Rattle.fol_base.specs.Numbering.{count_after}
use Rattle.fol_base.specs.Literal.{literal_of}
use Rattle.fol_base.proofs.AboutCanonical.WalkLemmas.{literal_parts, literals_variables, count_more, count_stops}
use Rattle.fol_base.proofs.canonical_form.count_in_clause.Goals as goal

pub returns-in_err-count : goal.returns-in_err-count
returns-in_err-count c =
    c.from_residual.ensures
    ∙ sym (count_stops literal_parts c.as_slice-literal-items.result.now c.loop-literal.literal-index c.literal-item.result
    c.loop-literal-test.true c.literal-item.is 0 c.loop-literal.count c.loop-literal.invariant.counted (sym c.in_err-count.ensures.value))
    ∙ ap (count_after 0)
    (literals_variables c.as_slice-literal-items.result.now
    ∙ ap (λ ls. flat_map literal_variables (map literal_of ls)) c.as_slice-literal-items.ensures)

pub loop-literal-preserved : goal.loop-literal-preserved
loop-literal-preserved c =
    record {
      counted =
          count_more literal_parts c.as_slice-literal-items.result.now c.loop-literal.literal-index c.literal-item.result
          c.loop-literal-test.true c.literal-item.is 0 c.loop-literal.count c.loop-literal.invariant.counted
          ∙ sym c.in_ok-count.ensures.value;
      limit = c.in_ok-count.ensures.limit;
    }

pub returns : goal.returns
returns c =
    let read = c.as_slice-literal-items.result.now in
    sym c.loop-literal.invariant.counted
    ∙ ap (λ xs. count_after 0 (flat_map literal_parts xs)) (take_all c.loop-literal.literal-index read (omega arith))
    ∙ ap (count_after 0)
    (literals_variables read ∙ ap (λ ls. flat_map literal_variables (map literal_of ls)) c.as_slice-literal-items.ensures)
