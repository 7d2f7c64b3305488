use Rattle.std.proofs.Common.{ap, arith, sym, ◌∙◌}
use Rattle.fol_base.specs.declared.clause.Clause.{Clause}
use Rattle.herbrand_list.proofs.AboutRefuting.OpenLemmas.{open-found, open-next, open-none}
use Rattle.herbrand_list.proofs.open_clauses.open_clause.Goals as goal

pub returns-then-not-has_no_variables : goal.returns-then-not-has_no_variables
returns-then-not-has_no_variables c =
    let found =
    open-found c.args.list.now c.as_slice-clauses.result.now c.loop-index.index c.index-clauses-index.result c.as_slice.result.now
    c.has_no_variables.result c.as_slice-clauses.ensures c.loop-index-test.true c.index-clauses-index.is
    (c.as_slice.ensures ∙ ap (λ (d : Clause). d.literals) (sym c.index-clauses-index.is))
    c.has_no_variables.ensures c.if-not-has_no_variables.true c.loop-index.invariant in
    record { within = found.0; open_one = found.1; first = found.2; none = tt }

pub loop-index-preserved : goal.loop-index-preserved
loop-index-preserved c =
    open-next c.as_slice-clauses.result.now c.loop-index.index c.index-clauses-index.result c.as_slice.result.now c.has_no_variables.result
    c.loop-index-test.true c.index-clauses-index.is
    (c.as_slice.ensures ∙ ap (λ (d : Clause). d.literals) (sym c.index-clauses-index.is)) c.has_no_variables.ensures c.if-not-has_no_variables.false
    c.loop-index.invariant

pub returns : goal.returns
returns c = record {
  within = tt;
  open_one = tt;
  first = tt;
  none = open-none c.args.list.now c.as_slice-clauses.result.now c.loop-index.index c.as_slice-clauses.ensures (omega arith) c.loop-index.invariant;
}
